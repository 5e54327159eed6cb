use Rattle.std.proofs.Common.{take}
use Rattle.std.specs.Prelude.{All}
use Rattle.pon_audit.specs.Openings.{MapIsOwned}
use Rattle.pon_audit.proofs.openings.are_owned_maps.Given as goal

-- the maps so far are owned
abbrev pub invariant-loop-map : goal.invariant-loop-map
invariant-loop-map l = All (MapIsOwned l.rows l.loads.accounts) (take l.map-index l.window)
