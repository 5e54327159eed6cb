-- An element inserted in its place in a list in an order, and one removed.
use Rattle.std.proofs.Common.{◌≡◌, ℕ, ◌+◌, ◌<◌, Bool, true, false, cond, not, ◌||◌, List, [], ◌∷◌, ◌++◌, length, take, drop, refl, ap, sym, ◌∙◌, subst, arith, map, ◌&&◌}
use Rattle.std.specs.Prelude.{◌==◌, nat_lt, filter, sum_by, count_by, All}
use Rattle.std.specs.List.{insert, list_any}
use Rattle.std.proofs.Math.Seq.{drop-append_seam, take-append_seam}
use Rattle.std.proofs.lemmas.Bool.{eq-eqb, le-ltb, ltb-false, or_parts}
use Rattle.std.proofs.lemmas.List.{length-append}
use Rattle.std.proofs.lemmas.List.Elements.{All-head, All-tail, All-weaker, filter-append, All-append, All-cons, All-filter}
use Rattle.std.proofs.lemmas.List.Folds.{list_any-append}
use Rattle.std.proofs.lemmas.List.Sums.{length-filter}
use Rattle.pon_lists.specs.Order.{IsInOrder, with_inserted, without_key}
use Rattle.pon_lists.proofs.Lists.{or_assoc, sum_by-between, any_eq-filter, list_any-map, map_filter}
use Rattle.pon_lists.proofs.Order.{in_order-between}

-- A list in an order, split where an element belongs.

module _ {X : Type 0} (p : X → Bool) where
  none_passes : (xs : List X) → All (λ x. p x ≡ false) xs → (filter p xs ≡ []) × (filter (λ x. not (p x)) xs ≡ xs)
  none_passes [] h = (refl, refl)
  none_passes (x ∷ xs) h =
      let here : p x ≡ false = All-head (λ x. p x ≡ false) x xs h in
      let rest : (filter p xs ≡ []) × (filter (λ x. not (p x)) xs ≡ xs) = none_passes xs (All-tail (λ x. p x ≡ false) x xs h) in (
        ap (λ b. cond b (x ∷ filter p xs) (filter p xs)) here ∙ rest.0,
        ap (λ b. cond (not b) (x ∷ filter (λ x. not (p x)) xs) (filter (λ x. not (p x)) xs)) here ∙ ap (λ t. x ∷ t) rest.1,
      )

  -- the two parts are the list if no element that passes comes after one that does not
  pub rejoined : (Before : X → X → Type 0) → ((x y : X) → Before x y → p x ≡ false → p y ≡ false) → (xs : List X) → IsInOrder Before xs → filter p xs ++ filter (λ x. not (p x)) xs ≡ xs
  rejoined Before stays [] h = refl
  rejoined Before stays (x ∷ xs) h = (elim (p x) as (λ b. p x ≡ b → cond b (x ∷ filter p xs) (filter p xs) ++ cond (not b) (x ∷ filter (λ x. not (p x)) xs) (filter (λ x. not (p x)) xs) ≡ x ∷ xs) [
    | true ↦ λ _. ap (λ t. x ∷ t) (rejoined Before stays xs h.1)
    | false ↦ λ e.
        let later : (filter p xs ≡ []) × (filter (λ x. not (p x)) xs ≡ xs) = none_passes xs (All-weaker (Before x) (λ y. p y ≡ false) (λ y k. stays x y k e) xs h.0) in
        (λ i. later.0 i ++ x ∷ later.1 i)
  ]) refl

-- elements with ascending keys, split at a number
pub rejoined_at : {X : Type 0} (i : ℕ) (key : X → ℕ) (xs : List X) → IsInOrder (λ x y. key x < key y) xs → filter (λ x. nat_lt (key x) i) xs ++ filter (λ x. not (nat_lt (key x) i)) xs ≡ xs
rejoined_at i key xs h = rejoined (λ x. nat_lt (key x) i) (λ x y. key x < key y) (λ x y l e. le-ltb (key y) i (omega (arith, l, ltb-false (key x) i e))) xs h

-- An element inserted in its place.

module _ {X : Type 0} (p : X → Bool) (x : X) (xs : List X) (whole : filter p xs ++ filter (λ y. not (p y)) xs ≡ xs) where
  -- its place is after the elements that pass the test
  pub insert_inserted : (k : ℕ) → k ≡ count_by p xs → insert xs k x ≡ with_inserted p x xs
  insert_inserted k place =
      let after : k ≡ length (filter p xs) = place ∙ sym (length-filter p xs) in
      (λ i. take (after i) (sym whole i) ++ x ∷ drop (after i) (sym whole i))
      ∙ (λ i. take-append_seam (filter p xs) (filter (λ y. not (p y)) xs) i ++ x ∷ drop-append_seam (filter p xs) (filter (λ y. not (p y)) xs) i)

  pub length-inserted : length (with_inserted p x xs) ≡ length xs + 1
  length-inserted =
      let e : length (filter p xs ++ filter (λ y. not (p y)) xs) ≡ length xs = ap (λ t. length t) whole in
      omega (arith, e, length-append (filter p xs) (filter (λ y. not (p y)) xs), length-append (filter p xs) (x ∷ filter (λ y. not (p y)) xs))

  pub sum_by-inserted : (f : X → ℕ) → sum_by f (with_inserted p x xs) ≡ f x + sum_by f xs
  sum_by-inserted f = sum_by-between f (filter p xs) (filter (λ y. not (p y)) xs) x ∙ ap (λ t. f x + sum_by f t) whole

  pub in_order-inserted : (Before : X → X → Type 0) → IsInOrder Before xs → All (λ y. Before y x) (filter p xs) → All (Before x) (filter (λ y. not (p y)) xs) → IsInOrder Before (with_inserted p x xs)
  in_order-inserted Before h before after = in_order-between Before x (filter p xs) (filter (λ y. not (p y)) xs) (subst (IsInOrder Before) (sym whole) h) before after

-- a test on a list with one inserted element
pub list_any-inserted : {X : Type 0} (q p : X → Bool) (x : X) (xs : List X) → list_any q (with_inserted p x xs) ≡ (q x || list_any q xs)
list_any-inserted {X = X} q p x xs =
    list_any-append q (filter p xs) (x ∷ filter (λ y. not (p y)) xs)
    ∙ or_swap (list_any q (filter p xs)) (q x) (list_any q (filter (λ y. not (p y)) xs))
    ∙ ap (λ b. q x || b) (both xs)
  where
    or_swap : (a b c : Bool) → (a || (b || c)) ≡ (b || (a || c))
    or_swap true true c = refl
    or_swap true false c = refl
    or_swap false b c = refl

    both : (xs : List X) → (list_any q (filter p xs) || list_any q (filter (λ y. not (p y)) xs)) ≡ list_any q xs
    both [] = refl
    both (y ∷ xs) = elim (p y) as (λ b. (list_any q (cond b (y ∷ filter p xs) (filter p xs)) || list_any q (cond (not b) (y ∷ filter (λ y. not (p y)) xs) (filter (λ y. not (p y)) xs))) ≡ (q y || list_any q xs)) [
      | true ↦ or_assoc (q y) (list_any q (filter p xs)) (list_any q (filter (λ y. not (p y)) xs)) ∙ ap (λ b. q y || b) (both xs)
      | false ↦ or_swap (list_any q (filter p xs)) (q y) (list_any q (filter (λ y. not (p y)) xs)) ∙ ap (λ b. q y || b) (both xs)
    ]

-- The element of a key removed.

module _ {X : Type 0} (key : X → ℕ) (i : ℕ) where
  pub without_absent : (xs : List X) → list_any (λ x. key x == i) xs ≡ false → without_key key i xs ≡ xs
  without_absent [] h = refl
  without_absent (x ∷ xs) h =
      let two : ((key x == i) ≡ false) × (list_any (λ x. key x == i) xs ≡ false) = or_parts (key x == i) (list_any (λ x. key x == i) xs) h in
      (λ j. cond (not (two.0 j)) (x ∷ without_key key i xs) (without_key key i xs)) ∙ ap (λ t. x ∷ t) (without_absent xs two.1)

  pub without_between : (xs ys : List X) (x : X) → list_any (λ x. key x == i) (xs ++ ys) ≡ false → key x ≡ i → without_key key i (xs ++ x ∷ ys) ≡ xs ++ ys
  without_between xs ys x h e =
      filter-append (λ x. not (key x == i)) xs (x ∷ ys)
      ∙ (λ j. without_key key i xs ++ cond (not (eq-eqb (key x) i e j)) (x ∷ without_key key i ys) (without_key key i ys))
      ∙ sym (filter-append (λ x. not (key x == i)) xs ys)
      ∙ without_absent (xs ++ ys) h

-- an element inserted and removed again
pub without_inserted : {X : Type 0} (key : X → ℕ) (p : X → Bool) (x : X) (xs : List X) → filter p xs ++ filter (λ y. not (p y)) xs ≡ xs → list_any (λ y. key y == key x) xs ≡ false → without_key key (key x) (with_inserted p x xs) ≡ xs
without_inserted key p x xs whole free =
    without_between key (key x) (filter p xs) (filter (λ y. not (p y)) xs) x (ap (list_any (λ y. key y == key x)) whole ∙ free) refl ∙ whole

-- what holds of all elements and of one that is inserted
pub All-inserted : {X : Type 0} (P : X → Type 0) (p : X → Bool) (x : X) (xs : List X) → P x → All P xs → All P (with_inserted p x xs)
All-inserted P p x xs here h =
    All-append P (filter p xs) (x ∷ filter (λ y. not (p y)) xs) (All-filter p P xs h) (All-cons P x (filter (λ y. not (p y)) xs) here (All-filter (λ y. not (p y)) P xs h))

-- whether a key is in a list without the elements of another key
pub any_without : {X : Type 0} (key : X → ℕ) (i j : ℕ) (xs : List X) → list_any (λ x. key x == j) (without_key key i xs) ≡ (not (j == i) && list_any (λ x. key x == j) xs)
any_without key i j xs =
    sym (list_any-map (λ k. k == j) key (without_key key i xs)) ∙ rw (← map_filter key (λ k. not (k == i)) xs, any_eq-filter (λ k. not (k == i)) j (map key xs), list_any-map)
