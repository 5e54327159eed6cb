-- Elements of lists by their index.
use Rattle.std.proofs.Common.{◌≡◌, ℕ, zero, suc, ◌<◌, List, [], ◌∷◌, ◌++◌, length, take, Some, ◌⊎◌, inl, inr, refl, ap, arith}
use Rattle.std.specs.Prelude.{slice_get}
use Rattle.std.proofs.lemmas.Option.{none-some, same_Some}

-- the first element after a list
pub get_after : {X : Type 0} (xs ys : List X) → slice_get (xs ++ ys) (length xs) ≡ slice_get ys 0
get_after [] ys = refl
get_after (x ∷ xs) ys = get_after xs ys

-- an element of the front
pub get_in_front : {X : Type 0} (xs : List X) (n k : ℕ) (x : X) → slice_get (take n xs) k ≡ Some x → (slice_get xs k ≡ Some x) × (k < n)
get_in_front [] zero k x h = absurd (none-some x h)
get_in_front [] (suc n) k x h = absurd (none-some x h)
get_in_front (y ∷ ys) zero k x h = absurd (none-some x h)
get_in_front (y ∷ ys) (suc n) zero x h = (h, omega arith)
get_in_front (y ∷ ys) (suc n) (suc k) x h = let rest = get_in_front ys n k x h in (rest.0, omega (arith, rest.1))

pub get_from_front : {X : Type 0} (xs : List X) (n k : ℕ) (x : X) → slice_get xs k ≡ Some x → k < n → slice_get (take n xs) k ≡ Some x
get_from_front [] n k x h below = absurd (none-some x h)
get_from_front (y ∷ ys) zero k x h below = absurd (omega (arith, below))
get_from_front (y ∷ ys) (suc n) zero x h below = h
get_from_front (y ∷ ys) (suc n) (suc k) x h below = get_from_front ys n k x h (omega (arith, below))

-- an element before the last
pub get_before : {X : Type 0} (xs : List X) (y : X) (k : ℕ) (x : X) → slice_get xs k ≡ Some x → slice_get (xs ++ y ∷ []) k ≡ Some x
get_before [] y k x h = absurd (none-some x h)
get_before (z ∷ zs) y zero x h = h
get_before (z ∷ zs) y (suc k) x h = get_before zs y k x h

-- each element is before the last or is the last
pub get_either : {X : Type 0} (xs : List X) (y : X) (k : ℕ) (x : X) → slice_get (xs ++ y ∷ []) k ≡ Some x → (slice_get xs k ≡ Some x) ⊎ ((k ≡ length xs) × (y ≡ x))
get_either [] y zero x h = inr (refl, same_Some y x h)
get_either [] y (suc k) x h = absurd (none-some x h)
get_either (z ∷ zs) y zero x h = inl h
get_either (z ∷ zs) y (suc k) x h = elim (get_either zs y k x h) [
  | inl front ↦ inl front
  | inr last ↦ inr (ap suc last.0, last.1)
]
