-- Items that are kept one after another, if any are to be kept.
use Rattle.std.specs.Prelude.{◌≡◌, ◌++◌, ◌∷◌, ◌⊎◌, [], List, Option, None, Some}
use Rattle.pon_lists.specs.declared.kept.Kept.{Kept}
use Rattle.pon_lists.specs.declared.kept.Kept.TheVariants as kept

-- the items, oldest first, if any are to be kept and memory was refused for none
abbrev pub kept_items : {T : Type 0} → Kept T → Option (List T)
kept_items kept.Nothing = None
kept_items (kept.Items items) = Some items.items
kept_items kept.Lost = None

-- one more item is kept after the others, or all are given up since memory is refused; if none are kept, none is
abbrev pub AddsTo : {T : Type 0} → Option (List T) → T → Option (List T) → Type 0
AddsTo None item new = new ≡ None
AddsTo (Some items) item new = (new ≡ Some (items ++ item ∷ [])) ⊎ (new ≡ None)
