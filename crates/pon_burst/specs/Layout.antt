-- What is known between two structures of a map.
use Rattle.std.specs.Prelude.{◌≡◌, ℕ, ◌+◌, List, [], ◌∷◌, ◌++◌, Option, Some, None}
use Rattle.pon_units.specs.declared.Granted.{Granted}
use Rattle.pon_burst.specs.declared.layout.Layout.{Layout}
use Rattle.pon_burst.specs.Maps.{frame_words}

-- the ONU of the last of these grants
abbrev pub IsLast : Option ℕ → List Granted → Type 0
IsLast None gs = gs ≡ []
IsLast (Some u) gs = (front : List Granted) × (g : Granted) × (gs ≡ front ++ g ∷ []) × (g.onu ≡ u)

-- the layout after these grants: the next burst may start after their words and its own gap
pub record IsAfter (gap : ℕ) (gs : List Granted) (l : Layout) : Type 0 where
  pub end : l.end ≡ gap + frame_words gap gs
  pub last : IsLast l.last gs
