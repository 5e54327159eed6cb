use Rattle.std.proofs.Common.{◌≡◌, take}
use Rattle.std.specs.Prelude.{All, Contains}
use Rattle.pon_audit.proofs.openings.reported_if_there.Given as goal

-- the ONU reported for the map of the frame, if it is one of those so far
abbrev pub invariant-loop-map : goal.invariant-loop-map
invariant-loop-map l = All (λ m. m.frame ≡ l.frame → Contains m.reported l.onu) (take l.map-index l.window)
