-- The parts of a text between commas.
use Rattle.std.specs.Prelude.{ℕ, Bool, true, false, List, [], ◌∷◌, ◌++◌, Option, Some, None, ◌==◌, codes, if◌then◌else◌}
use Rattle.std.specs.Borrow.{Bor}
use Rattle.std.specs.Str.{bytes_eq}
use Rattle.std.specs.List.{slice_split}

-- the remaining names of a set, as they are written
abbrev pub left_of : Option (Bor (List ℕ)) → List (List ℕ)
left_of None = []
left_of (Some t) = slice_split (λ b. b == 44) t.now

-- the names of a set
abbrev pub parts_of : List ℕ → List (List ℕ)
parts_of set = if bytes_eq set (codes "-") then [] else slice_split (λ b. b == 44) set

abbrev pub left_after : Bool → List (List ℕ) → List (List ℕ)
left_after true (p ∷ ps) = ps
left_after true [] = []
left_after false ps = ps

abbrev pub with_first : Bool → Option (List Bool) → Option (List Bool)
with_first b None = None
with_first b (Some fs) = Some (b ∷ fs)

-- the flags of earlier items, followed by those of the others
abbrev pub after_flags : List Bool → Option (List Bool) → Option (List Bool)
after_flags fs None = None
after_flags fs (Some gs) = Some (fs ++ gs)
