use Rattle.pon_link.proofs.OneReading.{one_report}
use Rattle.pon_link.proofs.laws.one_report.Goals as goal

pub returns : goal.returns
returns c = one_report
