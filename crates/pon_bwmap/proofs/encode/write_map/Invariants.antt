use Rattle.std.proofs.Common.{◌≡◌, ◌+◌, ◌*◌, ◌++◌, take, drop}
use Rattle.std.specs.List.{flat_map}
use Rattle.pon_bwmap.specs.MapBytes.{map_bytes, structure_bytes}
use Rattle.pon_bwmap.proofs.encode.write_map.Given as goal

abbrev pub invariant-loop-k : goal.invariant-loop-k
invariant-loop-k l = record {
  written : take (4 + 8 * l.k) l.room ++ flat_map structure_bytes (drop l.k l.rows) ≡ map_bytes l.rows;
  kept : drop (4 + 8 * l.k) l.room ≡ drop (4 + 8 * l.k) l.fn.room;
}
