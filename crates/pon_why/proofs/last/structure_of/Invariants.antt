use Rattle.std.proofs.Common.{◌≡◌, drop}
use Rattle.std.specs.Prelude.{◌==◌, find}
use Rattle.pon_why.proofs.last.structure_of.Given as goal

-- the structure of the Alloc-ID is among those to come, if there is one
abbrev pub invariant-loop-structure : goal.invariant-loop-structure
invariant-loop-structure l = find (λ a. a.id == l.alloc_id) l.structures ≡ find (λ a. a.id == l.alloc_id) (drop l.structure-index l.structures)
