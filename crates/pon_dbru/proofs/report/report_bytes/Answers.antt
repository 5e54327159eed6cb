use Rattle.std.proofs.Common.{◌∙◌, refl}
use Rattle.pon_dbru.proofs.ReportLaws.{reports}
use Rattle.pon_dbru.proofs.report.report_bytes.Goals as goal

pub returns : goal.returns
returns c = rw c.to_be_bytes.ensures (reports c.args.words c.from.result _ c.requires (c.from.ensures ∙ c.check_byte.ensures) refl)
