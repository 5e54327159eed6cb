-- The number of distinct numbers of a list that pass a test.
use Rattle.std.proofs.Common.{◌≡◌, ℕ, ◌+◌, ◌≤◌, Bool, true, false, cond, not, ◌||◌, ◌&&◌, List, [], ◌∷◌, ◌++◌, length, refl, ap, sym, ◌∙◌, subst, arith, inl, inr}
use Rattle.std.specs.Prelude.{◌==◌, filter, All, Contains}
use Rattle.std.specs.List.{list_any}
use Rattle.std.proofs.lemmas.Bool.{and_parts, and_from, and_right, ne_eqb, eqb-true}
use Rattle.std.proofs.lemmas.List.Elements.{All-head, All-tail, All-weaker}
use Rattle.std.proofs.lemmas.Bool.Decides.{eqb_tells}
use Rattle.pon_lists.specs.Distinct.{distinct}
use Rattle.pon_lists.proofs.Lists.{filter-filter, any_eq-filter}
use Rattle.std.proofs.lemmas.Map.Views.{Contains-from_any}

-- whether a list contains a number
abbrev pub occurs : ℕ → List ℕ → Bool
occurs u xs = list_any (λ v. v == u) xs

-- 1 if a test passes, otherwise 0
abbrev pub bit : Bool → ℕ
bit b = cond b 1 0

-- the number of distinct numbers that pass
abbrev pub count_once : List ℕ → (ℕ → Bool) → ℕ
count_once [] p = 0
count_once (x ∷ xs) p = bit (p x) + count_once xs (λ y. not (y == x) && p y)

-- it is the length of the filtered distinct numbers
pub length-filter_distinct : (xs : List ℕ) (p : ℕ → Bool) → length (filter p (distinct xs)) ≡ count_once xs p
length-filter_distinct [] p = refl
length-filter_distinct (x ∷ xs) p =
    let rest : List ℕ = filter p (filter (λ y. not (y == x)) (distinct xs)) in
    let e : length rest ≡ count_once xs (λ y. not (y == x) && p y)
    = ap (λ t. length t) (filter-filter p (λ y. not (y == x)) (distinct xs)) ∙ length-filter_distinct xs (λ y. not (y == x) && p y) in
    elim (p x) as (λ b. length (cond b (x ∷ rest) rest) ≡ bit b + count_once xs (λ y. not (y == x) && p y)) [
      | true ↦ omega (arith, e)
      | false ↦ omega (arith, e)
    ]

filter_true : (xs : List ℕ) → filter (λ _. true) xs ≡ xs
filter_true [] = refl
filter_true (x ∷ xs) = ap (λ t. x ∷ t) (filter_true xs)

-- the number of distinct numbers
pub length-distinct : (xs : List ℕ) → length (distinct xs) ≡ count_once xs (λ _. true)
length-distinct xs = ap (λ t. length t) (sym (filter_true (distinct xs))) ∙ length-filter_distinct xs (λ _. true)

-- Tests that pass more, and tests that agree.

cond_le : (a b : Bool) → (a ≡ true → b ≡ true) → bit a ≤ bit b
cond_le true true h = omega arith
cond_le true false h = absurd (let e : false ≡ true = h refl in cc)
cond_le false true h = omega arith
cond_le false false h = omega arith

pub count_once_le : (xs : List ℕ) (p q : ℕ → Bool) → ((y : ℕ) → p y ≡ true → q y ≡ true) → count_once xs p ≤ count_once xs q
count_once_le [] p q h = omega arith
count_once_le (x ∷ xs) p q h =
    omega (
      arith,
      cond_le (p x) (q x) (h x),
      count_once_le xs (λ y. not (y == x) && p y) (λ y. not (y == x) && q y)
          (λ y k. and_from (not (y == x)) (q y) (and_parts (not (y == x)) (p y) k).0 (h y (and_parts (not (y == x)) (p y) k).1)),
    )

pub count_once_same : (xs : List ℕ) (p q : ℕ → Bool) → ((y : ℕ) → p y ≡ q y) → count_once xs p ≡ count_once xs q
count_once_same xs p q h = ap (count_once xs) (λ i y. h y i)

and_swap : (a b c : Bool) → (a && (b && c)) ≡ (b && (a && c))
and_swap true b c = refl
and_swap false true c = refl
and_swap false false c = refl

without_both : (xs : List ℕ) (p : ℕ → Bool) (u z : ℕ) →
    count_once xs (λ y. not (y == z) && (not (y == u) && p y)) ≡ count_once xs (λ y. not (y == u) && (not (y == z) && p y))
without_both xs p u z = count_once_same xs _ _ (λ y. and_swap (not (y == z)) (not (y == u)) (p y))

-- One number removed.

-- a number counts at most once
pub count_once_split : (xs : List ℕ) (p : ℕ → Bool) (u : ℕ) → count_once xs p ≤ bit (p u) + count_once xs (λ y. not (y == u) && p y)
count_once_split [] p u = omega arith
count_once_split (z ∷ zs) p u =
    elim (eqb_tells z u) [
      | inl e ↦
          let same : bit (p z) ≡ bit (p u) = ap (λ n. bit (p n)) e.1 in
          omega (
            arith,
            same,
            count_once_le zs (λ y. not (y == z) && p y) (λ y. not (y == z) && (not (y == u) && p y))
                (λ y k. let two : (not (y == z) ≡ true) × (p y ≡ true) = and_parts (not (y == z)) (p y) k in
                and_from (not (y == z)) (not (y == u) && p y) two.0 (and_from (not (y == u)) (p y) (subst (λ n. not (y == n) ≡ true) e.1 two.0) two.1)),
          )
      | inr e ↦
          let here : bit (not (z == u) && p z) ≡ bit (p z) = ap (λ b. bit (not b && p z)) e.0 in
          let there : bit (not (u == z) && p u) ≡ bit (p u) = ap (λ b. bit (not b && p u)) (ne_eqb u z (λ k. e.1 (sym k))) in
          omega (arith, here, there, count_once_split zs (λ y. not (y == z) && p y) u, without_both zs p u z)
    ]

-- a number that the list contains counts once if it passes
pub count_once_known : (xs : List ℕ) (p : ℕ → Bool) (u : ℕ) → occurs u xs ≡ true → bit (p u) + count_once xs (λ y. not (y == u) && p y) ≤ count_once xs p
count_once_known [] p u h = absurd cc
count_once_known (z ∷ zs) p u h =
    elim (eqb_tells z u) [
      | inl e ↦
          let same : bit (p z) ≡ bit (p u) = ap (λ n. bit (p n)) e.1 in
          let here : bit (not (z == u) && p z) ≡ 0 = ap (λ b. bit (not b && p z)) e.0 in
          omega (
            arith,
            same,
            here,
            count_once_le zs (λ y. not (y == z) && (not (y == u) && p y)) (λ y. not (y == z) && p y)
                (λ y k. let two : (not (y == z) ≡ true) × ((not (y == u) && p y) ≡ true) = and_parts (not (y == z)) (not (y == u) && p y) k in
                and_from (not (y == z)) (p y) two.0 (and_parts (not (y == u)) (p y) two.1).1),
          )
      | inr e ↦
          let later : occurs u zs ≡ true = subst (λ b. (b || occurs u zs) ≡ true) e.0 h in
          let here : bit (not (z == u) && p z) ≡ bit (p z) = ap (λ b. bit (not b && p z)) e.0 in
          let there : bit (not (u == z) && p u) ≡ bit (p u) = ap (λ b. bit (not b && p u)) (ne_eqb u z (λ k. e.1 (sym k))) in
          omega (arith, here, there, count_once_known zs (λ y. not (y == z) && p y) u later, without_both zs p u z)
    ]

-- without a number, at most as many pass
pub count_once_without : (xs : List ℕ) (p : ℕ → Bool) (u : ℕ) → count_once xs (λ y. not (y == u) && p y) ≤ count_once xs p
count_once_without xs p u = count_once_le xs (λ y. not (y == u) && p y) p (λ y k. (and_parts (not (y == u)) (p y) k).1)

-- Two concatenated lists: of the second, the numbers that the first does not contain count.

eq_swap : (x y : ℕ) → (x == y) ≡ (y == x)
eq_swap x y = elim (eqb_tells x y) [ inl e ↦ (λ i. e.1 i == sym e.1 i) | inr e ↦ e.0 ∙ sym (ne_eqb y x (λ k. e.1 (sym k))) ]

not_or : (a b c : Bool) → (not a && (not b && c)) ≡ (not (b || a) && c)
not_or true true c = refl
not_or true false c = refl
not_or false true c = refl
not_or false false c = refl

pub count_once-append : (xs ys : List ℕ) (p : ℕ → Bool) → count_once (xs ++ ys) p ≡ count_once xs p + count_once ys (λ y. not (occurs y xs) && p y)
count_once-append [] ys p = omega arith
count_once-append (x ∷ xs) ys p =
    let rest : count_once (xs ++ ys) (λ y. not (y == x) && p y) ≡ count_once xs (λ y. not (y == x) && p y) + count_once ys (λ y. not (occurs y xs) && (not (y == x) && p y))
    = count_once-append xs ys (λ y. not (y == x) && p y) in
    let same : count_once ys (λ y. not (occurs y xs) && (not (y == x) && p y)) ≡ count_once ys (λ y. not ((x == y) || occurs y xs) && p y)
    = count_once_same ys _ _ (λ y. ap (λ b. not (occurs y xs) && (not b && p y)) (eq_swap y x) ∙ not_or (occurs y xs) (x == y) (p y)) in
    omega (arith, rest, same)

-- Lists on all of whose numbers a test is known.

-- no number passes
pub count_once_none : (xs : List ℕ) (p : ℕ → Bool) → All (λ y. p y ≡ false) xs → count_once xs p ≡ 0
count_once_none [] p h = refl
count_once_none (x ∷ xs) p h =
    let here : bit (p x) ≡ 0 = ap (λ b. bit b) (All-head (λ y. p y ≡ false) x xs h) in
    let rest : count_once xs (λ y. not (y == x) && p y) ≡ 0
    = count_once_none xs (λ y. not (y == x) && p y) (All-weaker (λ y. p y ≡ false) (λ y. (not (y == x) && p y) ≡ false) (λ y k. and_right (not (y == x)) (p y) k) xs (All-tail (λ y. p y ≡ false) x xs h)) in
    omega (arith, here, rest)

-- two tests agree on all numbers
pub count_once_agree : (xs : List ℕ) (p q : ℕ → Bool) → All (λ y. p y ≡ q y) xs → count_once xs p ≡ count_once xs q
count_once_agree [] p q h = refl
count_once_agree (x ∷ xs) p q h =
    let here : bit (p x) ≡ bit (q x) = ap (λ b. bit b) (All-head (λ y. p y ≡ q y) x xs h) in
    let rest : count_once xs (λ y. not (y == x) && p y) ≡ count_once xs (λ y. not (y == x) && q y)
    = count_once_agree xs (λ y. not (y == x) && p y) (λ y. not (y == x) && q y)
    (All-weaker (λ y. p y ≡ q y) (λ y. (not (y == x) && p y) ≡ (not (y == x) && q y)) (λ y k. ap (λ b. not (y == x) && b) k) xs (All-tail (λ y. p y ≡ q y) x xs h)) in
    omega (arith, here, rest)

-- one more number at the end counts if it passes and is new
pub count_once_push : (xs : List ℕ) (p : ℕ → Bool) (u : ℕ) → count_once (xs ++ u ∷ []) p ≡ count_once xs p + bit (not (occurs u xs) && p u)
count_once_push xs p u = omega (arith, count_once-append xs (u ∷ []) p)

-- a number of a list that passes a test is in the filtered list
pub contains_filtered : (p : ℕ → Bool) (u : ℕ) (xs : List ℕ) → p u ≡ true → occurs u xs ≡ true → Contains (filter p xs) u
contains_filtered p u xs passes there =
    Contains-from_any {eq = λ q k. k == q} (λ x y e. sym (eqb-true y x e)) u (filter p xs) (any_eq-filter p u xs ∙ and_from (p u) (occurs u xs) passes there)
