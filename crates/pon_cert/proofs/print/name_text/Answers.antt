use Rattle.std.proofs.Common.{length, ap, arith}
use Rattle.std.proofs.lemmas.Result.{IfOk-weaker}
use Rattle.std.proofs.lemmas.Fmt.{decimal_nonempty}
use Rattle.pon_cert.proofs.print.name_text.Goals as goal

pub returns-clause-some : goal.returns-clause-some
returns-clause-some c = IfOk-weaker c.format.result _ _ (λ text e. omega (arith, ap length e, decimal_nonempty c.get-number.result (omega (arith, c.get-number.ensures.value, c.get-number.ensures.range)))) c.format.ensures.ok
