use Rattle.pon_history.proofs.ClosedForms.{admitted_load, other_load, rising_accounts}
use Rattle.pon_history.proofs.laws.loads_are_of_counted_reports.Goals as goal

pub returns : goal.returns
returns c = record { admitted = admitted_load; others = other_load; rising = rising_accounts }
