use Rattle.std.proofs.Common.{◌≡◌, drop}
use Rattle.pon_why.specs.Followings.{map_of}
use Rattle.pon_why.proofs.followed.map_of.Given as goal

-- no row before the index is of the Alloc-ID, so the rows from it on have its map
abbrev pub invariant-loop-index : goal.invariant-loop-index
invariant-loop-index l = map_of l.alloc_id l.frame (drop l.index l.rows) (drop l.index l.structures) ≡ map_of l.alloc_id l.frame l.rows l.structures
