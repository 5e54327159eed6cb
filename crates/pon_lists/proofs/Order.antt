-- Lists in an order, and their parts.
use Rattle.std.proofs.Common.{ℕ, zero, suc, ◌<◌, Bool, true, false, cond, List, [], ◌∷◌, ◌++◌, map, length, get_or, arith}
use Rattle.std.specs.Prelude.{filter, All}
use Rattle.std.proofs.lemmas.List.Elements.{All-nil, All-cons, All-append, All-filter, All-head, All-tail}
use Rattle.pon_lists.specs.Order.{IsInOrder}
use Rattle.pon_lists.proofs.Lists.{All-between, All-front, All-middle, All-unmap}

module _ {X : Type 0} (Before : X → X → Type 0) where
  pub in_order_at : (xs : List X) → IsInOrder Before xs → (m n : ℕ) (d : X) → m < n → n < length xs → Before (get_or xs m d) (get_or xs n d)
  in_order_at [] h m n d l k = absurd (omega (arith, k))
  in_order_at (x ∷ xs) h zero zero d l k = absurd (omega (arith, l))
  in_order_at (x ∷ xs) h zero (suc n) d l k = h.0 n d (omega (arith, k))
  in_order_at (x ∷ xs) h (suc m) zero d l k = absurd (omega (arith, l))
  in_order_at (x ∷ xs) h (suc m) (suc n) d l k = in_order_at xs h.1 m n d (omega (arith, l)) (omega (arith, k))

  pub in_order-filter : (p : X → Bool) (xs : List X) → IsInOrder Before xs → IsInOrder Before (filter p xs)
  in_order-filter p [] h = tt
  in_order-filter p (x ∷ xs) h = elim (p x) as (λ b. IsInOrder Before (cond b (x ∷ filter p xs) (filter p xs))) [
    | true ↦ (All-filter p (Before x) xs h.0, in_order-filter p xs h.1)
    | false ↦ in_order-filter p xs h.1
  ]

  -- two concatenated lists
  pub in_order-append : (xs ys : List X) → IsInOrder Before xs → IsInOrder Before ys → All (λ x. All (Before x) ys) xs → IsInOrder Before (xs ++ ys)
  in_order-append [] ys h k l = k
  in_order-append (x ∷ xs) ys h k l = (All-append (Before x) xs ys h.0 (All-head (λ x. All (Before x) ys) x xs l), in_order-append xs ys h.1 k (All-tail (λ x. All (Before x) ys) x xs l))

  pub in_order-front : (xs ys : List X) → IsInOrder Before (xs ++ ys) → IsInOrder Before xs
  in_order-front [] ys h = tt
  in_order-front (x ∷ xs) ys h = (All-front (Before x) xs ys h.0, in_order-front xs ys h.1)

  pub in_order-back : (xs ys : List X) → IsInOrder Before (xs ++ ys) → IsInOrder Before ys
  in_order-back [] ys h = h
  in_order-back (x ∷ xs) ys h = in_order-back xs ys h.1

  -- an element between others
  pub in_order-sides : (x : X) (xs ys : List X) → IsInOrder Before (xs ++ x ∷ ys) → All (λ y. Before y x) xs × All (Before x) ys
  in_order-sides x [] ys h = (All-nil (λ y. Before y x), h.0)
  in_order-sides x (z ∷ xs) ys h =
      let rest : All (λ y. Before y x) xs × All (Before x) ys = in_order-sides x xs ys h.1 in
      (All-cons (λ y. Before y x) z xs (All-middle (Before z) xs ys x h.0) rest.0, rest.1)

  pub in_order-between : (x : X) (xs ys : List X) → IsInOrder Before (xs ++ ys) → All (λ y. Before y x) xs → All (Before x) ys → IsInOrder Before (xs ++ x ∷ ys)
  in_order-between x [] ys h before after = (after, h)
  in_order-between x (z ∷ xs) ys h before after = (
    All-between (Before z) xs ys x h.0 (All-head (λ y. Before y x) z xs before),
    in_order-between x xs ys h.1 (All-tail (λ y. Before y x) z xs before) after,
  )

-- elements whose keys are in an order
pub in_order-unmap : {X Y : Type 0} (Before : Y → Y → Type 0) (key : X → Y) (xs : List X) → IsInOrder Before (map key xs) → IsInOrder (λ x y. Before (key x) (key y)) xs
in_order-unmap Before key [] h = tt
in_order-unmap Before key (x ∷ xs) h = (All-unmap (Before (key x)) key xs h.0, in_order-unmap Before key xs h.1)
