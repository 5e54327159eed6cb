use Rattle.pon_desk.proofs.Settled.{settled_entries}
use Rattle.pon_desk.proofs.laws.settled_receipts_are_all_entries.Goals as goal

pub returns : goal.returns
returns c = settled_entries
