use Rattle.std.proofs.Common.{◌≡◌, take}
use Rattle.pon_guar.proofs.window.copy_maps.Given as goal

-- the maps so far are copied
abbrev pub invariant-loop-map : goal.invariant-loop-map
invariant-loop-map l = l.maps.items ≡ take l.map-index l.window
