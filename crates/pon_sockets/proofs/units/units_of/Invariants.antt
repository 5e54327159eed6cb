use Rattle.std.proofs.Common.{◌≡◌, ◌++◌}
use Rattle.std.specs.Prelude.{drop, take}
use Rattle.pon_sockets.specs.Units.{units_after, units_of}
use Rattle.pon_sockets.proofs.units.units_of.Given as goal

abbrev pub invariant-loop-i : goal.invariant-loop-i
invariant-loop-i l = l.units.items ++ units_after l.rows (take l.i l.rows) (drop l.i l.rows) ≡ units_of l.rows
