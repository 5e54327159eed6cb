-- Lists: counts, sums, filters and tests over them, and properties of all elements.
use Rattle.std.proofs.Common.{◌≡◌, ℕ, ◌+◌, ◌≤◌, Bool, true, false, cond, not, ltb, ◌||◌, ◌&&◌, List, [], ◌∷◌, ◌++◌, map, length, refl, ap, sym, ◌∙◌, arith, inl, inr, Option, Some, None, take, zero, suc}
use Rattle.std.specs.Prelude.{◌==◌, filter, sum_by, count_by, All, ◌⊎◌, flat_map, slice_get}
use Rattle.std.specs.List.{list_any, position, position_or_len}
use Rattle.std.proofs.lemmas.Bool.{ltb-false, eq-eqb, or_left, or_parts, or_right}
use Rattle.std.proofs.lemmas.List.Sums.{prefix_len-le-length, sum_by-append, sum_by-cons}
pub use Rattle.std.proofs.lemmas.List.{drop-drop, drop-map, drop-append-le, length-drop, length-append, append-nil, map-append, length-map}
pub use Rattle.std.proofs.lemmas.List.Elements.{filter-append, filter_agree}
pub use Rattle.std.proofs.lemmas.List.Folds.{flat_map-map}
pub use Rattle.std.proofs.lemmas.Grind.{flat_map-append}
pub use Rattle.std.proofs.lemmas.Simd.{map-map}
use Rattle.std.proofs.lemmas.List.Elements.{All-nil, All-cons, All-head, All-tail, All-append}
use Rattle.std.proofs.lemmas.Bool.Decides.{eqb_tells}
use Rattle.std.proofs.lemmas.Option.{same_Some}

-- the count over two concatenated lists
pub count_by-append : {X : Type 0} (p : X → Bool) (xs ys : List X) → count_by p (xs ++ ys) ≡ count_by p xs + count_by p ys
count_by-append p xs ys = sum_by-append (λ x. cond (p x) 1 0) xs ys

pub or-false : (b : Bool) → (b || false) ≡ b
or-false true = refl
or-false false = refl

pub or_assoc : (a b c : Bool) → ((a || b) || c) ≡ (a || (b || c))
or_assoc true b c = refl
or_assoc false b c = refl

-- two test results that imply each other are equal
pub same_Bool : (a b : Bool) → (a ≡ true → b ≡ true) → (b ≡ true → a ≡ true) → a ≡ b
same_Bool true b there back = sym (there refl)
same_Bool false true there back = back refl
same_Bool false false there back = refl

pub map_same : {A B : Type 0} (f g : A → B) → ((x : A) → f x ≡ g x) → (xs : List A) → map f xs ≡ map g xs
map_same f g h [] = refl
map_same f g h (x ∷ xs) = (λ i. h x i ∷ map_same f g h xs i)

pub filter-filter : {A : Type 0} (p q : A → Bool) (xs : List A) → filter p (filter q xs) ≡ filter (λ x. q x && p x) xs
filter-filter p q [] = refl
filter-filter p q (x ∷ xs) = elim (q x) as (λ b. filter p (cond b (x ∷ filter q xs) (filter q xs)) ≡ cond (b && p x) (x ∷ filter (λ x. q x && p x) xs) (filter (λ x. q x && p x) xs)) [
  | true ↦ ap (λ t. cond (p x) (x ∷ t) t) (filter-filter p q xs)
  | false ↦ filter-filter p q xs
]

pub map_filter : {A B : Type 0} (f : A → B) (p : B → Bool) (xs : List A) → filter p (map f xs) ≡ map f (filter (λ x. p (f x)) xs)
map_filter f p [] = refl
map_filter f p (x ∷ xs) = elim (p (f x)) as (λ b. cond b (f x ∷ filter p (map f xs)) (filter p (map f xs)) ≡ map f (cond b (x ∷ filter (λ x. p (f x)) xs) (filter (λ x. p (f x)) xs))) [
  | true ↦ ap (λ t. f x ∷ t) (map_filter f p xs)
  | false ↦ map_filter f p xs
]

-- whether a filtered list contains a number
pub any_eq-filter : (p : ℕ → Bool) (u : ℕ) (xs : List ℕ) → list_any (λ v. v == u) (filter p xs) ≡ (p u && list_any (λ v. v == u) xs)
any_eq-filter p u [] = elim (p u) as (λ b. false ≡ (b && false)) [ true ↦ refl | false ↦ refl ]
any_eq-filter p u (x ∷ xs) =
    elim (eqb_tells x u) [
      | inl e ↦ rw (e.0, e.1) ((elim (p u) as (λ b. p u ≡ b → list_any (λ v. v == u) (cond b (u ∷ filter p xs) (filter p xs)) ≡ (b && true)) [
        | true ↦ λ _. ap (λ b. b || list_any (λ v. v == u) (filter p xs)) (eq-eqb u u refl)
        | false ↦ λ k. any_eq-filter p u xs ∙ ap (λ b. b && list_any (λ v. v == u) xs) k
      ]) refl)
      | inr e ↦ rw e.0 (elim (p x) as (λ b. list_any (λ v. v == u) (cond b (x ∷ filter p xs) (filter p xs)) ≡ (p u && list_any (λ v. v == u) xs)) [
        | true ↦ rw e.0 (any_eq-filter p u xs)
        | false ↦ any_eq-filter p u xs
      ])
    ]

-- two tests that agree on the numbers of a list keep the same numbers
pub filter_same_in : (p q : ℕ → Bool) (xs : List ℕ) → ((u : ℕ) → list_any (λ v. v == u) xs ≡ true → p u ≡ q u) → filter p xs ≡ filter q xs
filter_same_in p q [] h = refl
filter_same_in p q (x ∷ xs) h =
    let head : p x ≡ q x = h x (or_left (x == x) (list_any (λ v. v == x) xs) (eq-eqb x x refl)) in
    let rest : filter p xs ≡ filter q xs = filter_same_in p q xs (λ u k. h u (or_right (x == u) (list_any (λ v. v == u) xs) k)) in
    (λ i. cond (head i) (x ∷ rest i) (rest i))

pub sum_by-map : {X Y : Type 0} (f : Y → ℕ) (g : X → Y) (xs : List X) → sum_by f (map g xs) ≡ sum_by (λ x. f (g x)) xs
sum_by-map f g [] = refl
sum_by-map f g (x ∷ xs) = sum_by-cons f (g x) (map g xs) ∙ ap (λ n. f (g x) + n) (sum_by-map f g xs) ∙ sym (sum_by-cons (λ y. f (g y)) x xs)

pub list_any-map : {X Y : Type 0} (p : Y → Bool) (f : X → Y) (xs : List X) → list_any p (map f xs) ≡ list_any (λ x. p (f x)) xs
list_any-map p f [] = refl
list_any-map p f (x ∷ xs) = ap (λ b. p (f x) || b) (list_any-map p f xs)

pub sum_by_same : {X : Type 0} (f g : X → ℕ) → ((x : X) → f x ≡ g x) → (xs : List X) → sum_by f xs ≡ sum_by g xs
sum_by_same f g h [] = refl
sum_by_same f g h (x ∷ xs) = sum_by-cons f x xs ∙ (λ i. h x i + sum_by_same f g h xs i) ∙ sym (sum_by-cons g x xs)

-- the index that `position` returns
pub position-Some_or_len : {X : Type 0} (p : X → Bool) (t : List X) (r : Option ℕ) (n : ℕ) → r ≡ position p t → r ≡ Some n → n ≡ position_or_len p t
position-Some_or_len p t r n e s = go (ltb (position_or_len p t) (length t)) (sym e ∙ s)
  where
    go : (v : Bool) → cond v (Some (position_or_len p t)) None ≡ Some n → n ≡ position_or_len p t
    go true h = cc
    go false h = absurd (cc)

pub position-None_or_len : {X : Type 0} (p : X → Bool) (t : List X) (r : Option ℕ) → r ≡ position p t → r ≡ None → length t ≡ position_or_len p t
position-None_or_len p t r e s = go (ltb (position_or_len p t) (length t)) refl (sym e ∙ s)
  where
    go : (v : Bool) → ltb (position_or_len p t) (length t) ≡ v → cond v (Some (position_or_len p t)) None ≡ None → length t ≡ position_or_len p t
    go true k h = absurd (cc)
    go false k h = omega (arith, ltb-false (position_or_len p t) (length t) k, prefix_len-le-length (λ b. not (p b)) t)

pub position-Some_within : {X : Type 0} (p : X → Bool) (t : List X) (r : Option ℕ) (n : ℕ) → r ≡ position p t → r ≡ Some n → n ≤ length t
position-Some_within p t r n e s =
    omega (arith, position-Some_or_len p t r n e s, prefix_len-le-length (λ b. not (p b)) t)

-- Functions and tests that agree on the elements of a list.

pub map_agree : {X Y : Type 0} (f g : X → Y) (xs : List X) → All (λ x. f x ≡ g x) xs → map f xs ≡ map g xs
map_agree f g [] h = refl
map_agree f g (x ∷ xs) h = (λ j. All-head (λ x. f x ≡ g x) x xs h j ∷ map_agree f g xs (All-tail (λ x. f x ≡ g x) x xs h) j)

pub sum_by_agree : {X : Type 0} (f g : X → ℕ) (xs : List X) → All (λ x. f x ≡ g x) xs → sum_by f xs ≡ sum_by g xs
sum_by_agree f g [] h = refl
sum_by_agree f g (x ∷ xs) h = sum_by-cons f x xs ∙ (λ i. All-head (λ x. f x ≡ g x) x xs h i + sum_by_agree f g xs (All-tail (λ x. f x ≡ g x) x xs h) i) ∙ sym (sum_by-cons g x xs)

pub list_any_agree : {X : Type 0} (p q : X → Bool) (xs : List X) → All (λ x. p x ≡ q x) xs → list_any p xs ≡ list_any q xs
list_any_agree p q [] h = refl
list_any_agree p q (x ∷ xs) h = (λ i. All-head (λ x. p x ≡ q x) x xs h i || list_any_agree p q xs (All-tail (λ x. p x ≡ q x) x xs h) i)

-- the contribution of one element to a sum
pub sum_by-between : {X : Type 0} (f : X → ℕ) (xs ys : List X) (x : X) → sum_by f (xs ++ x ∷ ys) ≡ f x + sum_by f (xs ++ ys)
sum_by-between f xs ys x = omega (arith, sum_by-append f xs (x ∷ ys), sum_by-append f xs ys, sum_by-cons f x ys)

-- Properties of all elements of a list.

pub All-front : {X : Type 0} (P : X → Type 0) (xs ys : List X) → All P (xs ++ ys) → All P xs
All-front P [] ys h = All-nil P
All-front P (x ∷ xs) ys h = All-cons P x xs (All-head P x (xs ++ ys) h) (All-front P xs ys (All-tail P x (xs ++ ys) h))

pub All-back : {X : Type 0} (P : X → Type 0) (xs ys : List X) → All P (xs ++ ys) → All P ys
All-back P [] ys h = h
All-back P (x ∷ xs) ys h = All-back P xs ys (All-tail P x (xs ++ ys) h)

pub All-middle : {X : Type 0} (P : X → Type 0) (xs ys : List X) (x : X) → All P (xs ++ x ∷ ys) → P x
All-middle P [] ys x h = All-head P x ys h
All-middle P (z ∷ xs) ys x h = All-middle P xs ys x (All-tail P z (xs ++ x ∷ ys) h)

pub All-between : {X : Type 0} (P : X → Type 0) (xs ys : List X) (x : X) → All P (xs ++ ys) → P x → All P (xs ++ x ∷ ys)
All-between P [] ys x h p = All-cons P x ys p h
All-between P (z ∷ xs) ys x h p = All-cons P z (xs ++ x ∷ ys) (All-head P z (xs ++ ys) h) (All-between P xs ys x (All-tail P z (xs ++ ys) h) p)

-- the converse of `All-map`
pub All-unmap : {X Y : Type 0} (P : Y → Type 0) (f : X → Y) (xs : List X) → All P (map f xs) → All (λ x. P (f x)) xs
All-unmap P f [] h = All-nil (λ x. P (f x))
All-unmap P f (x ∷ xs) h = All-cons (λ x. P (f x)) x xs (All-head P (f x) (map f xs) h) (All-unmap P f xs (All-tail P (f x) (map f xs) h))

-- what holds of all elements of the lists that a list is made into
pub All-flat_map : {X Y : Type 0} (P : Y → Type 0) (f : X → List Y) (xs : List X) → All (λ x. All P (f x)) xs → All P (flat_map f xs)
All-flat_map P f [] h = All-nil P
All-flat_map P f (x ∷ xs) h = All-append P (f x) (flat_map f xs) (All-head (λ x. All P (f x)) x xs h) (All-flat_map P f xs (All-tail (λ x. All P (f x)) x xs h))

pub All-from_flat_map : {X Y : Type 0} (P : Y → Type 0) (f : X → List Y) (xs : List X) → All P (flat_map f xs) → All (λ x. All P (f x)) xs
All-from_flat_map P f [] h = All-nil (λ x. All P (f x))
All-from_flat_map P f (x ∷ xs) h = All-cons (λ x. All P (f x)) x xs (All-front P (f x) (flat_map f xs) h) (All-from_flat_map P f xs (All-back P (f x) (flat_map f xs) h))

-- the converse of `list_any_none`
pub none_any : {X : Type 0} (p : X → Bool) (xs : List X) → list_any p xs ≡ false → All (λ x. p x ≡ false) xs
none_any p [] h = All-nil (λ x. p x ≡ false)
none_any p (x ∷ xs) h =
    let two : (p x ≡ false) × (list_any p xs ≡ false) = or_parts (p x) (list_any p xs) h in
    All-cons (λ x. p x ≡ false) x xs two.0 (none_any p xs two.1)

-- Elements of a list that is split.

pub at_front : {X : Type 0} (xs ys : List X) (x : X) (k : ℕ) → slice_get xs k ≡ Some x → (slice_get (xs ++ ys) k ≡ Some x) × (take k (xs ++ ys) ≡ take k xs)
at_front [] ys x k h = absurd cc
at_front (z ∷ xs) ys x zero h = (h, refl)
at_front (z ∷ xs) ys x (suc k) h = (let rest = at_front xs ys x k h in (rest.0, ap (λ t. z ∷ t) rest.1))

pub at_middle : {X : Type 0} (xs : List X) (x : X) (ys : List X) → slice_get (xs ++ x ∷ ys) (length xs) ≡ Some x
at_middle [] x ys = refl
at_middle (z ∷ xs) x ys = at_middle xs x ys

pub at_push : {X : Type 0} (xs : List X) (x y : X) (k : ℕ) → slice_get (xs ++ x ∷ []) k ≡ Some y → (slice_get xs k ≡ Some y) ⊎ ((k ≡ length xs) × (x ≡ y))
at_push [] x y zero h = inr (refl, same_Some x y h)
at_push [] x y (suc k) h = absurd cc
at_push (z ∷ xs) x y zero h = inl h
at_push (z ∷ xs) x y (suc k) h = elim (at_push xs x y k h) [ inl old ↦ inl old | inr new ↦ inr (ap suc new.0, new.1) ]
