use Rattle.std.proofs.Common.{◌^◌, arith}
use Rattle.pon_hec.proofs.Unique.{one_reading}
use Rattle.pon_hec.proofs.open.open64.Goals as goal

pub returns-in-Some-clause-only : goal.returns-in-Some-clause-only
returns-in-Some-clause-only c = λ m k r. one_reading (2 ^ 64) c.args.word m k _ _ (omega arith) (omega (arith, c.ranges.word.fits)) r c.in-Some.ensures.some
