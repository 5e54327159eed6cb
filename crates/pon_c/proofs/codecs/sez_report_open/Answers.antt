use Rattle.std.proofs.Common.{refl, subst, sym}
use Rattle.pon_dbru.specs.Report.{Reports}
use Rattle.pon_c.proofs.codecs.sez_report_open.Goals as goal

pub returns-in-Err-clause-garbled : goal.returns-in-Err-clause-garbled
returns-in-Err-clause-garbled c = λ _ _. (refl, λ n r. c.in-Err.ensures.garbled.0 refl n (subst (λ b. Reports b n) (sym c.in-Some.ensures.cases.same) r))
