use Rattle.std.proofs.Common.{◌-◌, ◌*◌}
use Rattle.pon_hec.proofs.ByteTable.{Leaves}
use Rattle.pon_hec.proofs.seal.check_bits.Given as goal

abbrev pub invariant-loop-place : goal.invariant-loop-place
invariant-loop-place l = Leaves l.payload (8 * (l.bytes - (l.bytes - l.place))) l.rest
