use Rattle.std.proofs.Common.{arith}
use Rattle.pon_laws.proofs.SureNumbers.{sure_wait}
use Rattle.pon_laws.proofs.runs.a_sure_wait_holds.Goals as goal

pub returns : goal.returns
returns g c l two from count i n d has loaded wait long = sure_wait c l two from count i n d has loaded wait (omega (arith, long))
