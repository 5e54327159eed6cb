use Rattle.pon_laws.proofs.ClassParts.{each_part}
use Rattle.pon_laws.proofs.Sure.{each_sure_part}
use Rattle.pon_laws.proofs.shares.no_report_takes_a_weighted_part.Goals as goal

pub returns : goal.returns
returns c = record { part = each_part; sure = each_sure_part }
