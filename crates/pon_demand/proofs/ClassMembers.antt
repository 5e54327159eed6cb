-- The members of a class among demands that are read in turn.
use Rattle.std.proofs.Common.{◌≡◌, ℕ, suc, ◌+◌, ◌<◌, Bool, true, false, List, [], ◌∷◌, ◌++◌, drop, get_or, length, map, take, ap, sym, ◌∙◌}
use Rattle.std.specs.Prelude.{filter}
use Rattle.std.proofs.Math.Bool.{cond}
use Rattle.std.proofs.lemmas.List.{append-nil, drop_more, map-append}
use Rattle.std.proofs.lemmas.List.Elements.{filter_more}

module _ {X : Type 0} (p : X → Bool) (xs : List X) (i : ℕ) (x : X) (lt : i < length xs) (is : x ≡ get_or xs i x) where
  taken : filter p (take (i + 1) xs) ≡ filter p (take i xs) ++ cond (p x) (x ∷ []) []
  taken = filter_more p xs i x lt ∙ ap (λ (y : X). filter p (take i xs) ++ cond (p y) (y ∷ []) []) (sym is)

  left : length (filter p (drop i xs)) ≡ length (cond (p x) (x ∷ filter p (drop (i + 1) xs)) (filter p (drop (i + 1) xs)))
  left = ap (λ (l : List X). length (filter p l)) (drop_more xs i x lt ∙ ap (λ (y : X). y ∷ drop (i + 1) xs) (sym is))

  -- the element passes the test
  pub member : {Y : Type 0} (f : X → Y) → p x ≡ true → map f (filter p (take (i + 1) xs)) ≡ map f (filter p (take i xs)) ++ f x ∷ []
  member f e = ap (map f) (taken ∙ ap (λ (b : Bool). filter p (take i xs) ++ cond b (x ∷ []) []) e) ∙ map-append f (filter p (take i xs)) (x ∷ [])

  pub member_left : p x ≡ true → length (filter p (drop i xs)) ≡ suc (length (filter p (drop (i + 1) xs)))
  member_left e = left ∙ ap (λ (b : Bool). length (cond b (x ∷ filter p (drop (i + 1) xs)) (filter p (drop (i + 1) xs)))) e

  -- it does not
  pub other : {Y : Type 0} (f : X → Y) → p x ≡ false → map f (filter p (take (i + 1) xs)) ≡ map f (filter p (take i xs))
  other f e = ap (map f) (taken ∙ ap (λ (b : Bool). filter p (take i xs) ++ cond b (x ∷ []) []) e ∙ append-nil (filter p (take i xs)))

  pub other_left : p x ≡ false → length (filter p (drop i xs)) ≡ length (filter p (drop (i + 1) xs))
  other_left e = left ∙ ap (λ (b : Bool). length (cond b (x ∷ filter p (drop (i + 1) xs)) (filter p (drop (i + 1) xs)))) e
