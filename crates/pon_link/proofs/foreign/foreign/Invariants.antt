use Rattle.std.proofs.Common.{◌≡◌, map, take, Some}
use Rattle.pon_link.proofs.foreign.foreign.Given as goal

-- an occupancy of 0 for each structure so far
abbrev pub invariant-loop-structure : goal.invariant-loop-structure
invariant-loop-structure l = l.occ ≡ map (λ _. Some 0) (take l._structure-index l.series)
