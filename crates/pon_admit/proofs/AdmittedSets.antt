-- Admitted sets stay admitted after an admission or change that no check refuses, and after a removal.
use Rattle.std.proofs.Common.{◌≡◌, ℕ, suc, ◌+◌, ◌*◌, ◌<◌, ◌≤◌, Bool, true, false, cond, not, ◌||◌, ◌&&◌, List, [], ◌∷◌, ◌++◌, map, length, refl, ap, sym, ◌∙◌, subst, arith, inl, inr}
use Rattle.std.specs.Prelude.{◌==◌, ◌⊎◌, nat_lt, nat_le, if◌then◌else◌, filter, sum_by, All, None}
use Rattle.std.proofs.Math.Nat.{mul-le-mul_left}
use Rattle.std.proofs.lemmas.Bool.{and_parts, and_from, and_cases, or_cases, or_parts, or_from, or_left, or_right, ltb-true, lt-ltb, le-leb, leb-true, leb-false, eqb-true, eq-eqb, ne_eqb, not-true, not-false, false_from_ne_true, cases_Bool, cases_order}
use Rattle.std.proofs.lemmas.List.{length-append, length-map, map-append}
use Rattle.std.proofs.lemmas.List.Elements.{All-nil, All-cons, All-head, All-tail, All-filter, All-weaker, All-map, filter_passes}
use Rattle.std.proofs.lemmas.List.Filters.{sum_by-filter_both, length-filter_both}
use Rattle.std.proofs.lemmas.List.Folds.{list_any-append}
use Rattle.std.proofs.lemmas.List.Sums.{sum_by-cons}
use Rattle.pon_descr.specs.Descriptor.{Descriptor, IsLawful, promised}
use Rattle.pon_lists.specs.Distinct.{distinct}
use Rattle.pon_units.specs.declared.limits.TheConstants.{MAX_ONUS, MAX_SERIES, FRAME_WORDS}
use Rattle.pon_admit.specs.Roster.{IsAdmitted, IsDistinct, IsInMapOrder, IsInRange, Row, Rule, admit_checks, capacity, change_checks, comes_before, fits, has_alloc, has_onu, max_allocs, onus_of, overhead, overhead_words, owned, promised_sum, refuses_admit, refuses_change, with_descriptor, with_row, without}
use Rattle.pon_descr.specs.declared.refusal.Refusal.TheVariants.{AllocTaken, TooManyAllocs, TooManyOnus, SeriesFull, Capacity}
use Rattle.pon_descr.proofs.Checks.{AreNone, none_refuses, when_none}
use Rattle.pon_lists.proofs.Inserted.{rejoined}
use Rattle.pon_lists.proofs.Order.{in_order-between, in_order-filter}
use Rattle.pon_lists.proofs.Lists.{All-between, list_any-map, count_by-append, sum_by_same, sum_by-map, map-map, map_same}
use Rattle.pon_lists.proofs.Distinct.{bit, count_once, count_once-append, count_once_agree, count_once_known, count_once_split, length-distinct, occurs}

-- Map order.

-- a smaller ONU, or the same ONU and a smaller Alloc-ID
abbrev pub Precedes : Row → Row → Type 0
Precedes r s = (r.onu < s.onu) ⊎ ((r.onu ≡ s.onu) × (r.alloc_id < s.alloc_id))

pub precedes : (r s : Row) → comes_before r s ≡ true → Precedes r s
precedes r s h = elim (or_cases (nat_lt r.onu s.onu) (r.onu == s.onu && nat_lt r.alloc_id s.alloc_id) h) [
  | inl a ↦ inl (ltb-true r.onu s.onu a)
  | inr a ↦ inr (eqb-true r.onu s.onu (and_parts (r.onu == s.onu) (nat_lt r.alloc_id s.alloc_id) a).0, ltb-true r.alloc_id s.alloc_id (and_parts (r.onu == s.onu) (nat_lt r.alloc_id s.alloc_id) a).1)
]

pub before_from : (r s : Row) → Precedes r s → comes_before r s ≡ true
before_from r s h = elim h [
  | inl a ↦ or_left (nat_lt r.onu s.onu) (r.onu == s.onu && nat_lt r.alloc_id s.alloc_id) (lt-ltb r.onu s.onu a)
  | inr a ↦ or_right (nat_lt r.onu s.onu) (r.onu == s.onu && nat_lt r.alloc_id s.alloc_id) (and_from (r.onu == s.onu) (nat_lt r.alloc_id s.alloc_id) (eq-eqb r.onu s.onu a.0) (lt-ltb r.alloc_id s.alloc_id a.1))
]

-- map order is transitive
before_before : (r s t : Row) → comes_before r s ≡ true → comes_before s t ≡ true → comes_before r t ≡ true
before_before r s t h k = before_from r t (elim (precedes r s h) [
  | inl a ↦ elim (precedes s t k) [ inl b ↦ inl (omega (arith, a, b)) | inr b ↦ inl (omega (arith, a, b.0)) ]
  | inr a ↦ elim (precedes s t k) [ inl b ↦ inl (omega (arith, a.0, b)) | inr b ↦ inr (omega (arith, a.0, b.0), omega (arith, a.1, b.1)) ]
])

-- map order is total on different Alloc-IDs
not_before : (r s : Row) → comes_before s r ≡ false → (s.alloc_id == r.alloc_id) ≡ false → comes_before r s ≡ true
not_before r s h d = elim (cases_order r.onu s.onu) [
  | inl e ↦ elim (cases_order r.alloc_id s.alloc_id) [
    | inl f ↦ absurd (let t : true ≡ false = sym (eq-eqb s.alloc_id r.alloc_id (sym f)) ∙ d in cc)
    | inr f ↦ elim f [
      | inl g ↦ before_from r s (inr (e, g))
      | inr g ↦ absurd (let t : true ≡ false = sym (before_from s r (inr (sym e, g))) ∙ h in cc)
    ]
  ]
  | inr e ↦ elim e [
    | inl f ↦ before_from r s (inl f)
    | inr f ↦ absurd (let t : true ≡ false = sym (before_from s r (inl f)) ∙ h in cc)
  ]
]

-- A list in map order, split where a row belongs.

pub split_in_order : (r : Row) (rows : List Row) → IsInMapOrder rows → filter (λ s. comes_before s r) rows ++ filter (λ s. not (comes_before s r)) rows ≡ rows
split_in_order r rows h = rejoined (λ s. comes_before s r) (λ x y. comes_before x y ≡ true)
    (λ x y b e. false_from_ne_true (comes_before y r) (λ t. let u : true ≡ false = sym (before_before x y r b t) ∙ e in absurd cc)) rows h

-- One more row, between the rows that come before it and those that come after it.

no_alloc_between : (j : ℕ) (r : Row) (xs ys : List Row) → has_alloc j (xs ++ ys) ≡ false → (r.alloc_id == j) ≡ false → has_alloc j (xs ++ r ∷ ys) ≡ false
no_alloc_between j r [] ys h d = or_from (r.alloc_id == j) (has_alloc j ys) d h
no_alloc_between j r (x ∷ xs) ys h d =
    let two : ((x.alloc_id == j) ≡ false) × (has_alloc j (xs ++ ys) ≡ false) = or_parts (x.alloc_id == j) (has_alloc j (xs ++ ys)) h in
    or_from (x.alloc_id == j) (has_alloc j (xs ++ r ∷ ys)) two.0 (no_alloc_between j r xs ys two.1 d)

apart_between : (r : Row) (xs ys : List Row) → IsDistinct (xs ++ ys) → has_alloc r.alloc_id (xs ++ ys) ≡ false → IsDistinct (xs ++ r ∷ ys)
apart_between r [] ys h d = (d, h)
apart_between r (x ∷ xs) ys h d =
    let two : ((x.alloc_id == r.alloc_id) ≡ false) × (has_alloc r.alloc_id (xs ++ ys) ≡ false) = or_parts (x.alloc_id == r.alloc_id) (has_alloc r.alloc_id (xs ++ ys)) d in (
      no_alloc_between x.alloc_id r xs ys h.0 (ne_eqb r.alloc_id x.alloc_id (λ e. let t : true ≡ false = sym (eq-eqb x.alloc_id r.alloc_id (sym e)) ∙ two.0 in absurd cc)),
      apart_between r xs ys h.1 two.1,
    )

-- rows with other Alloc-IDs that do not come before r come after it
after_row : (r : Row) (ys : List Row) → All (λ s. not (comes_before s r) ≡ true) ys → has_alloc r.alloc_id ys ≡ false → All (λ s. comes_before r s ≡ true) ys
after_row r [] h d = All-nil (λ s. comes_before r s ≡ true)
after_row r (y ∷ ys) h d =
    let two : ((y.alloc_id == r.alloc_id) ≡ false) × (has_alloc r.alloc_id ys ≡ false) = or_parts (y.alloc_id == r.alloc_id) (has_alloc r.alloc_id ys) d in
    All-cons (λ s. comes_before r s ≡ true) y ys
    (not_before r y (not-true (comes_before y r) (All-head (λ s. not (comes_before s r) ≡ true) y ys h)) two.0)
    (after_row r ys (All-tail (λ s. not (comes_before s r) ≡ true) y ys h) two.1)

-- The number of ONUs.

abbrev pub onus : List Row → List ℕ
onus rows = map (λ r. r.onu) rows

-- the number of ONUs that own an Alloc-ID
pub length-onus_of : (rows : List Row) → length (onus_of rows) ≡ count_once (onus rows) (λ _. true)
length-onus_of rows = length-distinct (onus rows)

bit_le : (b : Bool) → bit b ≤ 1
bit_le true = omega arith
bit_le false = omega arith

absent : (u : ℕ) (xs : List ℕ) (p : ℕ → Bool) → occurs u xs ≡ false → All (λ y. p y ≡ (not (y == u) && p y)) xs
absent u [] p h = All-nil (λ y. p y ≡ (not (y == u) && p y))
absent u (x ∷ xs) p h =
    let two : ((x == u) ≡ false) × (occurs u xs ≡ false) = or_parts (x == u) (occurs u xs) h in
    All-cons (λ y. p y ≡ (not (y == u) && p y)) x xs (ap (λ b. not b && p x) (sym two.0)) (absent u xs p two.1)

-- u adds one to the count exactly when it passes p and occurs in the list
count_once_taken : (xs : List ℕ) (p : ℕ → Bool) (u : ℕ) → count_once xs p ≡ bit (p u && occurs u xs) + count_once xs (λ y. not (y == u) && p y)
count_once_taken xs p u = elim (cases_Bool (occurs u xs)) [
  | inl e ↦
      let passes : bit (p u && occurs u xs) ≡ bit (p u) = ap (λ b. bit (p u && b)) e ∙ and_true (p u) in
      omega (arith, passes, count_once_known xs p u e, count_once_split xs p u)
  | inr e ↦
      let none : bit (p u && occurs u xs) ≡ 0 = ap (λ b. bit (p u && b)) e ∙ and_false (p u) in
      omega (arith, none, count_once_agree xs p (λ y. not (y == u) && p y) (absent u xs p e))
]
  where
    and_true : (b : Bool) → bit (b && true) ≡ bit b
    and_true true = refl
    and_true false = refl

    and_false : (b : Bool) → bit (b && false) ≡ 0
    and_false true = refl
    and_false false = refl

-- an ONU is new exactly when it owns no other row
pub onus-between : (xs ys : List Row) (r : Row) → length (onus_of (xs ++ r ∷ ys)) ≡ bit (not (has_onu r.onu (xs ++ ys))) + length (onus_of (xs ++ ys))
onus-between xs ys r =
    let q : ℕ → Bool = λ y. not (occurs y (onus xs)) && true in
    let more : count_once (onus (xs ++ r ∷ ys)) (λ _. true) ≡ count_once (onus xs) (λ _. true) + (bit (q r.onu) + count_once (onus ys) (λ y. not (y == r.onu) && q y))
    = ap (λ us. count_once us (λ _. true)) (map-append (λ r. r.onu) xs (r ∷ ys)) ∙ count_once-append (onus xs) (onus (r ∷ ys)) (λ _. true) in
    let same : count_once (onus (xs ++ ys)) (λ _. true) ≡ count_once (onus xs) (λ _. true) + count_once (onus ys) q
    = ap (λ us. count_once us (λ _. true)) (map-append (λ r. r.onu) xs ys) ∙ count_once-append (onus xs) (onus ys) (λ _. true) in
    let owner : has_onu r.onu (xs ++ ys) ≡ (occurs r.onu (onus xs) || occurs r.onu (onus ys))
    = list_any-append (λ s. s.onu == r.onu) xs ys ∙ (λ i. sym (list_any-map (λ u. u == r.onu) (λ s. s.onu) xs) i || sym (list_any-map (λ u. u == r.onu) (λ s. s.onu) ys) i) in
    let new : bit (not (has_onu r.onu (xs ++ ys))) ≡ bit (not (occurs r.onu (onus xs) || occurs r.onu (onus ys))) = ap (λ b. bit (not b)) owner in
    omega (arith, length-onus_of (xs ++ r ∷ ys), length-onus_of (xs ++ ys), more, same, count_once_taken (onus ys) q r.onu, new, bits (occurs r.onu (onus xs)) (occurs r.onu (onus ys)))
  where
    bits : (a b : Bool) → bit (not a && true) ≡ bit (not (a || b)) + bit ((not a && true) && b)
    bits true b = omega arith
    bits false true = omega arith
    bits false false = omega arith

-- a filtered list has at most as many ONUs
onus_filter : (t : Row → Bool) (rows : List Row) (p : ℕ → Bool) → count_once (onus (filter t rows)) p ≤ count_once (onus rows) p
onus_filter t [] p = omega arith
onus_filter t (r ∷ rows) p = elim (t r) as (λ b. count_once (onus (cond b (r ∷ filter t rows) (filter t rows))) p ≤ count_once (onus (r ∷ rows)) p) [
  | true ↦ omega (arith, onus_filter t rows (λ y. not (y == r.onu) && p y))
  | false ↦ omega (arith, onus_filter t rows p, count_once_split (onus rows) p r.onu)
]

-- Sets that fit a frame.

pub fits_parts : (rule : Rule) (gap : ℕ) (rows : List Row) → fits rule gap rows ≡ true → (overhead rule gap rows ≤ FRAME_WORDS) × (promised_sum rows ≤ 256 * capacity rule gap rows)
fits_parts rule gap rows h =
    let two : (nat_le (overhead rule gap rows) FRAME_WORDS ≡ true) × (nat_le (promised_sum rows) (256 * capacity rule gap rows) ≡ true) = and_parts _ _ h in
    (leb-true _ _ two.0, leb-true _ _ two.1)

-- a set with no more ONUs, rows and promised rates fits too
fewer_fit : (rule : Rule) (gap : ℕ) (rows less : List Row) → length (onus_of less) ≤ length (onus_of rows) → length less ≤ length rows → promised_sum less ≤ promised_sum rows →
    fits rule gap rows ≡ true → fits rule gap less ≡ true
fewer_fit rule gap rows less few_onus few_rows few_promised h =
    let two : (overhead rule gap rows ≤ FRAME_WORDS) × (promised_sum rows ≤ 256 * capacity rule gap rows) = fits_parts rule gap rows h in
    let a : (gap + 2) * length (onus_of less) ≤ (gap + 2) * length (onus_of rows) = mul-le-mul_left (gap + 2) few_onus in
    let b : (overhead_words rule) * length less ≤ (overhead_words rule) * length rows = mul-le-mul_left (overhead_words rule) few_rows in
    let c : overhead rule gap less ≤ overhead rule gap rows = omega (arith, a, b) in
    and_from (nat_le (overhead rule gap less) FRAME_WORDS) (nat_le (promised_sum less) (256 * capacity rule gap less))
    (le-leb (overhead rule gap less) FRAME_WORDS (omega (arith, c, two.0)))
    (le-leb (promised_sum less) (256 * capacity rule gap less) (omega (arith, c, two.1, few_promised)))

-- A row is removed.

module _ (t : Row → Bool) where
  no_alloc_filter : (j : ℕ) (rows : List Row) → has_alloc j rows ≡ false → has_alloc j (filter t rows) ≡ false
  no_alloc_filter j [] h = refl
  no_alloc_filter j (r ∷ rows) h =
      let two : ((r.alloc_id == j) ≡ false) × (has_alloc j rows ≡ false) = or_parts (r.alloc_id == j) (has_alloc j rows) h in
      elim (t r) as (λ b. has_alloc j (cond b (r ∷ filter t rows) (filter t rows)) ≡ false) [
        | true ↦ or_from (r.alloc_id == j) (has_alloc j (filter t rows)) two.0 (no_alloc_filter j rows two.1)
        | false ↦ no_alloc_filter j rows two.1
      ]

  pub apart_filter : (rows : List Row) → IsDistinct rows → IsDistinct (filter t rows)
  apart_filter [] h = tt
  apart_filter (r ∷ rows) h = elim (t r) as (λ b. IsDistinct (cond b (r ∷ filter t rows) (filter t rows))) [
    | true ↦ (no_alloc_filter r.alloc_id rows h.0, apart_filter rows h.1)
    | false ↦ apart_filter rows h.1
  ]

  sum_filter : (f : Row → ℕ) (rows : List Row) → sum_by f (filter t rows) ≤ sum_by f rows
  sum_filter f rows = omega (arith, sum_by-filter_both t (λ r. not (t r)) (λ r. refl) f rows)

  -- a filtered admitted set is admitted
  pub filter_admitted : (rule : Rule) (gap : ℕ) (rows : List Row) → IsAdmitted rule gap rows → IsAdmitted rule gap (filter t rows)
  filter_admitted rule gap rows k =
      let shorter : length (filter t rows) ≤ length rows = omega (arith, length-filter_both t (λ r. not (t r)) (λ r. refl) rows) in
      let few : length (onus_of (filter t rows)) ≤ length (onus_of rows) = omega (arith, length-onus_of (filter t rows), length-onus_of rows, onus_filter t rows (λ _. true)) in
      record {
        in_map_order = in_order-filter (λ r s. comes_before r s ≡ true) t rows k.in_map_order;
        apart = apart_filter rows k.apart;
        in_range = All-filter t IsInRange rows k.in_range;
        few_allocs = omega (arith, shorter, k.few_allocs);
        few_onus = omega (arith, few, k.few_onus);
        short_series = λ u. omega (arith, sum_filter (λ r. cond (r.onu == u) 1 0) rows, k.short_series u);
        fitting = fewer_fit rule gap rows (filter t rows) few shorter (sum_filter (λ r. promised r.descriptor) rows) k.fitting;
      }

-- a removal keeps a set admitted
pub remove_keeps : (rule : Rule) (gap : ℕ) (rows : List Row) (i : ℕ) → IsAdmitted rule gap rows → IsAdmitted rule gap (without i rows)
remove_keeps rule gap rows i k = filter_admitted (λ r. not (r.alloc_id == i)) rule gap rows k

-- A row is admitted.

-- the checks of an admission
pub record Passes (rule : Rule) (gap : ℕ) (rows : List Row) (r : Row) : Type 0 where
  pub free : has_alloc r.alloc_id rows ≡ false
  pub few_allocs : length rows < (max_allocs rule)
  pub few_onus : (nat_le MAX_ONUS (length (onus_of rows)) && not (has_onu r.onu rows)) ≡ false
  pub short_series : owned r.onu rows < MAX_SERIES
  pub fitting : fits rule gap (with_row r rows) ≡ true

pub passes : (rule : Rule) (gap : ℕ) (rows : List Row) (r : Row) → refuses_admit rule gap rows r ≡ None → Passes rule gap rows r
passes rule gap rows r h =
    let p : AreNone (admit_checks rule gap rows r) = none_refuses (admit_checks rule gap rows r) h in
    record {
      free = when_none (has_alloc r.alloc_id rows) AllocTaken p.0;
      few_allocs = leb-false (max_allocs rule) (length rows) (when_none (nat_le (max_allocs rule) (length rows)) TooManyAllocs p.1.0);
      few_onus = when_none (nat_le MAX_ONUS (length (onus_of rows)) && not (has_onu r.onu rows)) TooManyOnus p.1.1.0;
      short_series = leb-false MAX_SERIES (owned r.onu rows) (when_none (nat_le MAX_SERIES (owned r.onu rows)) SeriesFull p.1.1.1.0);
      fitting = not-false (fits rule gap (with_row r rows)) (when_none (not (fits rule gap (with_row r rows))) Capacity p.1.1.1.1.0);
    }

-- the set with a row inserted, if the checks pass
between_admitted : (rule : Rule) (gap : ℕ) (r : Row) (xs ys : List Row) → Passes rule gap (xs ++ ys) r → fits rule gap (xs ++ r ∷ ys) ≡ true → IsInRange r →
    All (λ s. comes_before s r ≡ true) xs → All (λ s. not (comes_before s r) ≡ true) ys → IsAdmitted rule gap (xs ++ ys) → IsAdmitted rule gap (xs ++ r ∷ ys)
between_admitted rule gap r xs ys p fitting i before after k =
    let longer : length (xs ++ r ∷ ys) ≡ suc (length (xs ++ ys)) = omega (arith, length-append xs (r ∷ ys), length-append xs ys) in
    let free : has_alloc r.alloc_id ys ≡ false = (or_parts (has_alloc r.alloc_id xs) (has_alloc r.alloc_id ys) (sym (list_any-append (λ s. s.alloc_id == r.alloc_id) xs ys) ∙ p.free)).1 in
    record {
      in_map_order = in_order-between (λ r s. comes_before r s ≡ true) r xs ys k.in_map_order before (after_row r ys after free);
      apart = apart_between r xs ys k.apart p.free;
      in_range = All-between IsInRange xs ys r k.in_range i;
      few_allocs = omega (arith, longer, p.few_allocs);
      few_onus = elim (and_cases (nat_le MAX_ONUS (length (onus_of (xs ++ ys)))) (not (has_onu r.onu (xs ++ ys))) p.few_onus) [
        | inl e ↦ omega (arith, onus-between xs ys r, bit_le (not (has_onu r.onu (xs ++ ys))), leb-false MAX_ONUS (length (onus_of (xs ++ ys))) e)
        | inr e ↦ (let none : bit (not (has_onu r.onu (xs ++ ys))) ≡ 0 = ap bit e in omega (arith, onus-between xs ys r, none, k.few_onus))
      ];
      short_series = series;
      fitting = fitting;
    }
  where
    series : (u : ℕ) → owned u (xs ++ r ∷ ys) ≤ MAX_SERIES
    series u =
        let all : owned u (xs ++ r ∷ ys) ≡ owned u xs + (bit (r.onu == u) + owned u ys)
        = count_by-append (λ s. s.onu == u) xs (r ∷ ys) ∙ ap (λ n. owned u xs + n) (sum_by-cons (λ s. cond (s.onu == u) 1 0) r ys) in
        let were : owned u (xs ++ ys) ≡ owned u xs + owned u ys = count_by-append (λ s. s.onu == u) xs ys in
        elim (cases_Bool (r.onu == u)) [
          | inl e ↦ (let few : owned u (xs ++ ys) < MAX_SERIES = subst (λ v. owned v (xs ++ ys) < MAX_SERIES) (eqb-true r.onu u e) p.short_series in
              omega (arith, all, were, few, bit_le (r.onu == u)))
          | inr e ↦ (let none : bit (r.onu == u) ≡ 0 = ap bit e in omega (arith, all, were, none, k.short_series u))
        ]

-- an admission that no check refuses keeps a set admitted
pub admit_keeps : (rule : Rule) (gap : ℕ) (rows : List Row) (r : Row) → refuses_admit rule gap rows r ≡ None → IsInRange r → IsAdmitted rule gap rows → IsAdmitted rule gap (with_row r rows)
admit_keeps rule gap rows r h i k =
    let p : Passes rule gap rows r = passes rule gap rows r h in
    let xs : List Row = filter (λ s. comes_before s r) rows in
    let ys : List Row = filter (λ s. not (comes_before s r)) rows in
    let e : rows ≡ xs ++ ys = sym (split_in_order r rows k.in_map_order) in
    between_admitted rule gap r xs ys (subst (λ t. Passes rule gap t r) e p) p.fitting i
    (filter_passes (λ s. comes_before s r) rows) (filter_passes (λ s. not (comes_before s r)) rows) (subst (IsAdmitted rule gap) e k)

-- A descriptor is changed.

abbrev pub with_new : Descriptor → Row → Row
with_new d r = record { onu = r.onu; alloc_id = r.alloc_id; descriptor = d }

abbrev pub changed : ℕ → Descriptor → Row → Row
changed i d r = if r.alloc_id == i then with_new d r else r

module _ (i : ℕ) (d : Descriptor) where
  pub changed_onu : (r : Row) → (changed i d r).onu ≡ r.onu
  changed_onu r = elim (r.alloc_id == i) as (λ b. (if b then with_new d r else r).onu ≡ r.onu) [ true ↦ refl | false ↦ refl ]

  pub changed_alloc : (r : Row) → (changed i d r).alloc_id ≡ r.alloc_id
  changed_alloc r = elim (r.alloc_id == i) as (λ b. (if b then with_new d r else r).alloc_id ≡ r.alloc_id) [ true ↦ refl | false ↦ refl ]

  changed_before : (r s : Row) → comes_before (changed i d r) (changed i d s) ≡ comes_before r s
  changed_before r s = (λ j. nat_lt (changed_onu r j) (changed_onu s j) || (changed_onu r j == changed_onu s j && nat_lt (changed_alloc r j) (changed_alloc s j)))

  order_changed : (rows : List Row) → IsInMapOrder rows → IsInMapOrder (map (changed i d) rows)
  order_changed [] h = tt
  order_changed (r ∷ rows) h = (
    All-map (λ s. comes_before (changed i d r) s ≡ true) (changed i d) rows
        (All-weaker (λ s. comes_before r s ≡ true) (λ s. comes_before (changed i d r) (changed i d s) ≡ true) (λ s e. changed_before r s ∙ e) rows h.0),
    order_changed rows h.1,
  )

  pub has_alloc-changed : (j : ℕ) (rows : List Row) → has_alloc j (map (changed i d) rows) ≡ has_alloc j rows
  has_alloc-changed j [] = refl
  has_alloc-changed j (r ∷ rows) = (λ t. (changed_alloc r t == j) || has_alloc-changed j rows t)

  apart_changed : (rows : List Row) → IsDistinct rows → IsDistinct (map (changed i d) rows)
  apart_changed [] h = tt
  apart_changed (r ∷ rows) h = (
    ap (λ j. has_alloc j (map (changed i d) rows)) (changed_alloc r) ∙ has_alloc-changed r.alloc_id rows ∙ h.0,
    apart_changed rows h.1,
  )

  in_range_changed : IsLawful d → (r : Row) → IsInRange r → IsInRange (changed i d r)
  in_range_changed l r h = elim (r.alloc_id == i) as (λ b. IsInRange (if b then with_new d r else r)) [
    | true ↦ record { onu = h.onu; managed = h.managed; alloc_id = h.alloc_id; descriptor = l }
    | false ↦ h
  ]

  pub onus-changed : (rows : List Row) → onus (map (changed i d) rows) ≡ onus rows
  onus-changed rows = map-map (λ r. r.onu) (changed i d) rows ∙ map_same (λ r. (changed i d r).onu) (λ r. r.onu) changed_onu rows

  owned-changed : (u : ℕ) (rows : List Row) → owned u (map (changed i d) rows) ≡ owned u rows
  owned-changed u rows = sum_by-map (λ r. cond (r.onu == u) 1 0) (changed i d) rows
      ∙ sum_by_same (λ r. cond ((changed i d r).onu == u) 1 0) (λ r. cond (r.onu == u) 1 0) (λ r. ap (λ n. cond (n == u) 1 0) (changed_onu r)) rows

-- a change that no check refuses keeps a set admitted
pub change_keeps : (rule : Rule) (gap : ℕ) (rows : List Row) (i : ℕ) (d : Descriptor) → refuses_change rule gap rows i d ≡ None → IsLawful d → IsAdmitted rule gap rows → IsAdmitted rule gap (with_descriptor i d rows)
change_keeps rule gap rows i d h l k =
    let p : AreNone (change_checks rule gap rows i d) = none_refuses (change_checks rule gap rows i d) h in
    let few : length (onus_of (with_descriptor i d rows)) ≡ length (onus_of rows) = ap (λ us. length (distinct us)) (onus-changed i d rows) in
    record {
      in_map_order = order_changed i d rows k.in_map_order;
      apart = apart_changed i d rows k.apart;
      in_range = All-map IsInRange (changed i d) rows (All-weaker IsInRange (λ r. IsInRange (changed i d r)) (in_range_changed i d l) rows k.in_range);
      few_allocs = omega (arith, length-map rows (changed i d), k.few_allocs);
      few_onus = omega (arith, few, k.few_onus);
      short_series = λ u. omega (arith, owned-changed i d u rows, k.short_series u);
      fitting = not-false (fits rule gap (with_descriptor i d rows)) (when_none (not (fits rule gap (with_descriptor i d rows))) Capacity p.1.0);
    }
