-- What is chosen of items that are read in turn.
use Rattle.std.proofs.Common.{◌≡◌, ℕ, ◌+◌, ◌<◌, List, [], ◌∷◌, ◌++◌, append_assoc, append-nil, get_or, length, take, ap, sym, ◌∙◌}
use Rattle.std.specs.Prelude.{Option, Some, None, filter_map}
use Rattle.std.specs.List.{cons_option}
use Rattle.std.proofs.lemmas.List.{take_more}
use Rattle.std.proofs.lemmas.List.Elements.{filter_map-append}

module _ {X Y : Type 0} (h : X → Option Y) (xs : List X) (before so_far : List Y) (i : ℕ) (x : X) (lt : i < length xs) (is : x ≡ get_or xs i x) where
  taken : filter_map h (take (i + 1) xs) ≡ filter_map h (take i xs) ++ cons_option (h x) []
  taken = ap (filter_map h) (take_more xs i x lt) ∙ filter_map-append h (take i xs) (get_or xs i x ∷ [])
      ∙ ap (λ (y : X). filter_map h (take i xs) ++ cons_option (h y) []) (sym is)

  -- one more is chosen
  pub one_chosen : (y : Y) → h x ≡ Some y → so_far ≡ before ++ filter_map h (take i xs) → so_far ++ y ∷ [] ≡ before ++ filter_map h (take (i + 1) xs)
  one_chosen y e all = ap (λ (l : List Y). l ++ y ∷ []) all ∙ append_assoc before (filter_map h (take i xs)) (y ∷ [])
      ∙ ap (λ (l : List Y). before ++ l) (sym (taken ∙ ap (λ (o : Option Y). filter_map h (take i xs) ++ cons_option o []) e))

  -- the item is passed over
  pub none_chosen : h x ≡ None → so_far ≡ before ++ filter_map h (take i xs) → so_far ≡ before ++ filter_map h (take (i + 1) xs)
  none_chosen e all = all
      ∙ ap (λ (l : List Y). before ++ l) (sym (taken ∙ ap (λ (o : Option Y). filter_map h (take i xs) ++ cons_option o []) e ∙ append-nil (filter_map h (take i xs))))
