use Rattle.std.proofs.Common.{◌≡◌, take}
use Rattle.pon_guar.proofs.parts.restore_window.Given as goal

-- the window has the maps so far
abbrev pub invariant-loop-map : goal.invariant-loop-map
invariant-loop-map l = l.window ≡ take l.map-index l.maps
