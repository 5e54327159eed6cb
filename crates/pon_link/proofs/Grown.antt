-- An element that passes a test is one of the list.
use Rattle.std.proofs.Common.{◌≡◌, ℕ, zero, suc, ◌<◌, Bool, true, false, List, [], ◌∷◌, ap, refl, ◌∙◌, arith, length}
use Rattle.std.specs.Prelude.{◌||◌, IfSome, slice_get}
use Rattle.std.specs.List.{list_any}

or_true : (b : Bool) → (b || true) ≡ true
or_true true = refl
or_true false = refl

pub any_at : {X : Type 0} (p : X → Bool) (xs : List X) (i : ℕ) → i < length xs → IfSome (slice_get xs i) (λ x. p x ≡ true) → list_any p xs ≡ true
any_at p [] i inside is = absurd (omega (arith, inside))
any_at p (x ∷ xs) zero inside is = ap (λ b. b || list_any p xs) is
any_at p (x ∷ xs) (suc i) inside is = ap (λ b. p x || b) (any_at p xs i (omega (arith, inside)) is) ∙ or_true (p x)
