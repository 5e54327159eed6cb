use Rattle.std.proofs.Common.{◌≡◌, IfSome}
use Rattle.pon_bwmap.proofs.RowReading.{GoodRows}
use Rattle.pon_bwmap.proofs.decode.read_rows.Given as goal

abbrev pub invariant-loop-k : goal.invariant-loop-k
invariant-loop-k l = (good : GoodRows l.bytes l.k l.corrected l.place) × IfSome l.rows (λ v. v.items ≡ good.rows)
