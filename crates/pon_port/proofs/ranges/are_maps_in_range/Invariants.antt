use Rattle.std.proofs.Common.{take}
use Rattle.std.specs.Prelude.{All}
use Rattle.pon_state.specs.Ranges.{AreGrantsInRange}
use Rattle.pon_port.proofs.ranges.are_maps_in_range.Given as goal

abbrev pub invariant-loop-map : goal.invariant-loop-map
invariant-loop-map l = All (λ m. AreGrantsInRange m.grants) (take l.map-index l.maps)
