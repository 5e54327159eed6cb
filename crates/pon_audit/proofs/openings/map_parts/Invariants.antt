use Rattle.std.proofs.Common.{◌≡◌, take}
use Rattle.pon_audit.proofs.openings.map_parts.Given as goal

-- the maps so far are lent
abbrev pub invariant-loop-map : goal.invariant-loop-map
invariant-loop-map l = l.maps.items ≡ take l.map-index l.window
