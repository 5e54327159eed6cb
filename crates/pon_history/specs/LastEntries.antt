-- The last entry of a kind.
use Rattle.std.specs.Prelude.{if◌then◌else◌, Bool, List, [], ◌∷◌}
use Rattle.std.specs.List.{list_any}
use Rattle.pon_state.specs.Entry.{Entry}

-- the entries before the last one that passes a test
abbrev pub before_last : (Entry → Bool) → List Entry → List Entry
before_last test [] = []
before_last test (e ∷ es) = if list_any test es then e ∷ before_last test es else []
