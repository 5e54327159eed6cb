-- Where the grants of a map stand in the upstream frame.
use Rattle.std.specs.Prelude.{ℕ, List, [], ◌∷◌, ◌+◌, Option, Some, None}
use Rattle.pon_bwmap.specs.Alloc.{Alloc}

-- the first word of a grant: after the header of the burst that it starts, or after the grant before it, which ends before `next`
abbrev pub first_word : ℕ → Option ℕ → ℕ
first_word next (Some start) = start + 1
first_word next None = next

-- the first word of each grant
abbrev pub first_words : ℕ → List Alloc → List ℕ
first_words next [] = []
first_words next (a ∷ structures) = first_word next a.start ∷ first_words (first_word next a.start + a.grant) structures
