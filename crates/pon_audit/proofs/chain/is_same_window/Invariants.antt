use Rattle.std.proofs.Common.{◌≡◌, map, take}
use Rattle.pon_audit.proofs.chain.is_same_window.Given as goal

-- the maps so far are the same
abbrev pub invariant-loop-place : goal.invariant-loop-place
invariant-loop-place l = map (λ m. m) (take l.place l.raws) ≡ take l.place l.maps
