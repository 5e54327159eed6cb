-- Lists in two parts.
use Rattle.std.proofs.Common.{◌≡◌, ℕ, zero, suc, ◌≤◌, Bool, true, false, cond, not, List, [], ◌∷◌, ◌++◌, refl, ap, sym, ◌∙◌, arith, length, take, drop}
use Rattle.std.specs.List.Sorted.{IsPartitionPoint}
use Rattle.std.specs.Prelude.{filter}
use Rattle.std.proofs.Math.Seq.{take-append_seam}

-- before the partition point are the elements that pass, from it on those that do not
pub parts_at : {X : Type 0} (p : X → Bool) (xs : List X) (k : ℕ) → k ≤ length xs → IsPartitionPoint (λ a. p a ≡ true) (λ a. p a ≡ false) xs k → (take k xs ≡ filter p xs) × (drop k xs ≡ filter (λ a. not (p a)) xs)
parts_at p [] zero l h = (refl, refl)
parts_at p [] (suc k) l h = absurd (omega (arith, l))
parts_at p (x ∷ xs) zero l h =
    let here : p x ≡ false = h.1 0 x (omega arith) (omega arith) in
    let rest : (take 0 xs ≡ filter p xs) × (drop 0 xs ≡ filter (λ a. not (p a)) xs)
    = parts_at p xs 0 (omega arith) (λ n d a b. absurd (omega (arith, b)), λ n d a b. h.1 (suc n) d (omega arith) (omega (arith, b))) in
    (rest.0 ∙ (λ i. cond (sym here i) (x ∷ filter p xs) (filter p xs)), (λ i. x ∷ rest.1 i) ∙ (λ i. cond (not (sym here i)) (x ∷ filter (λ a. not (p a)) xs) (filter (λ a. not (p a)) xs)))
parts_at p (x ∷ xs) (suc k) l h =
    let here : p x ≡ true = h.0 0 x (omega arith) (omega arith) in
    let rest : (take k xs ≡ filter p xs) × (drop k xs ≡ filter (λ a. not (p a)) xs)
    = parts_at p xs k (omega (arith, l)) (λ n d a b. h.0 (suc n) d (omega (arith, a)) (omega (arith, b)), λ n d a b. h.1 (suc n) d (omega (arith, a)) (omega (arith, b))) in
    ((λ i. x ∷ rest.0 i) ∙ (λ i. cond (sym here i) (x ∷ filter p xs) (filter p xs)), rest.1 ∙ (λ i. cond (not (sym here i)) (x ∷ filter (λ a. not (p a)) xs) (filter (λ a. not (p a)) xs)))

-- a slice of a vector that is overwritten
pub written : {X : Type 0} (xs ys : List X) (n : ℕ) → n ≡ length xs → length ys ≡ length xs → take n (ys ++ drop (length ys) xs) ≡ ys
written xs ys n e q = ap (λ n. take n (ys ++ drop (length ys) xs)) (e ∙ sym q) ∙ take-append_seam ys (drop (length ys) xs)
