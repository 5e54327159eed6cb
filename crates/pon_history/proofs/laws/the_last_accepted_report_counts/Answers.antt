use Rattle.pon_history.proofs.Reports.{counts, none_counts}
use Rattle.pon_history.proofs.laws.the_last_accepted_report_counts.Goals as goal

pub returns : goal.returns
returns c = record { some = counts; none = none_counts }
