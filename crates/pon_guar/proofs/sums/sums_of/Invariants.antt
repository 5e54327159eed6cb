use Rattle.std.proofs.Common.{◌≡◌, length, take}
use Rattle.pon_guar.specs.Sums.{AreSummed}
use Rattle.pon_guar.proofs.sums.sums_of.Given as goal

-- the sums of the maps so far
abbrev pub invariant-loop-i : goal.invariant-loop-i
invariant-loop-i l = record {
  count : length l.sums.items ≡ l.i;
  summed : AreSummed (take l.i l.maps) l.sums.items;
}
