use Rattle.std.proofs.Common.{◌≡◌, ◌++◌, ◌+◌, ◌*◌, ◌^◌, ◌≤◌, drop, length}
use Rattle.pon_units.specs.declared.limits.TheConstants.{MAX_STRUCTURES}
use Rattle.pon_draw.specs.Places.{first_words}
use Rattle.pon_draw.proofs.parts.grant_places.Given as goal

-- the places so far, and those of the structures to come
abbrev pub invariant-loop-structure : goal.invariant-loop-structure
invariant-loop-structure l =
    (first_words 0 l.structures ≡ l.places.items ++ first_words l.next (drop l.structure-index l.structures))
    × (l.next ≤ 2 ^ 16 * (l.structure-index + 1))
    × (length l.structures ≤ MAX_STRUCTURES)
