-- Lists in an order, an element inserted in its place, and one removed.
use Rattle.std.specs.Prelude.{ℕ, ◌<◌, Bool, not, ◌==◌, nat_lt, List, [], ◌∷◌, ◌++◌, filter, All}

-- each element comes before all later ones
abbrev pub IsInOrder : {X : Type 0} → (X → X → Type 0) → List X → Type 0
IsInOrder Before [] = Unit {0}
IsInOrder Before (x ∷ xs) = All (Before x) xs × IsInOrder Before xs

-- the elements that come before `x`, then `x`, then the others
abbrev pub with_inserted : {X : Type 0} → (X → Bool) → X → List X → List X
with_inserted before x xs = filter before xs ++ x ∷ filter (λ y. not (before y)) xs

-- the elements whose key is not `i`
abbrev pub without_key : {X : Type 0} → (X → ℕ) → ℕ → List X → List X
without_key key i xs = filter (λ x. not (key x == i)) xs

-- numbers in ascending order
abbrev pub AreRising : List ℕ → Type 0
AreRising ns = IsInOrder (λ m n. m < n) ns

-- ascending numbers with one more in its place, and with one removed
abbrev pub with_number : ℕ → List ℕ → List ℕ
with_number n ns = with_inserted (λ m. nat_lt m n) n ns

abbrev pub without_number : ℕ → List ℕ → List ℕ
without_number n ns = without_key (λ m. m) n ns
