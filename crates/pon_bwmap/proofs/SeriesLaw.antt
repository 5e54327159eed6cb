-- A list of structures is a map exactly when it keeps the rules of series.
use Rattle.std.proofs.Common.{◌≡◌, ℕ, zero, suc, ◌+◌, ◌<◌, ◌≤◌, Bool, true, false, leb, List, Option, Some, None, inl, inr, refl, ap, sym, ◌∙◌, arith, rules}
use Rattle.std.specs.Prelude.{slice_get, if◌then◌else◌, is_none}
use Rattle.std.proofs.lemmas.Bool.{cases_lt, le-ltb, lt-leb}
use Rattle.std.proofs.lemmas.Option.{slice_get_within}
use Rattle.std.proofs.Math.Dec.{eqb-suc-zero}
use Rattle.pon_units.specs.declared.limits.TheConstants.{FRAME_WORDS, MAX_SERIES}
use Rattle.pon_bwmap.specs.Alloc.{Alloc}
use Rattle.pon_bwmap.specs.MapRules.{place_in_series, continues, start_fault, row_fault, IsMap, KeepsSeriesRules}
use Rattle.pon_bwmap.specs.declared.fault.MapFault.TheVariants.{StartRange}
use Rattle.pon_bwmap.proofs.SeriesRules.{first_place, row_fault_is, short}

place_on : (rows : List Alloc) (k : ℕ) → continues (slice_get rows (suc k)) ≡ true → place_in_series rows (suc k) ≡ place_in_series rows k + 1
unfolding place_in_series
place_on rows k on = ap (λ (b : Bool). if b then place_in_series rows k + 1 else 0) on

place_anew : (rows : List Alloc) (k : ℕ) → continues (slice_get rows (suc k)) ≡ false → place_in_series rows (suc k) ≡ 0
unfolding place_in_series
place_anew rows k anew = ap (λ (b : Bool). if b then place_in_series rows k + 1 else 0) anew

-- ---- from maps to the rules

nothing_at : (rows : List Alloc) (k : ℕ) (a : Alloc) → IsMap rows → slice_get rows k ≡ Some a → start_fault k a.start (place_in_series rows k) ≡ None
nothing_at rows k a map here =
    sym (row_fault_is rows k (place_in_series rows k) a a.start (start_fault k a.start (place_in_series rows k)) here refl refl refl) ∙ map.keep_rules k (slice_get_within rows k a here)

first_starts : (rows : List Alloc) (o : Option Alloc) → IsMap rows → slice_get rows 0 ≡ o → continues o ≡ false
first_starts rows None map here = refl
first_starts rows (Some a) map here = started a.start (place_in_series rows 0) (nothing_at rows 0 a map here)
  where
    started : (start : Option ℕ) (place : ℕ) → start_fault 0 start place ≡ None → is_none start ≡ false
    started (Some start) place e = refl
    started None place e = absurd (cc)

in_frame : (k start place : ℕ) → start_fault k (Some start) place ≡ None → start < FRAME_WORDS
in_frame k start place e = by_test (leb FRAME_WORDS start) refl e
  where
    by_test : (b : Bool) → leb FRAME_WORDS start ≡ b → (if b then Some (StartRange k) else None) ≡ None → start < FRAME_WORDS
    by_test true is e = absurd (cc)
    by_test false is e = search (rules, is)

goes_on : (rows : List Alloc) (k m : ℕ) → ((j : ℕ) → j < m → continues (slice_get rows (k + suc j)) ≡ true) → m ≤ place_in_series rows (k + m)
goes_on rows k zero all = omega arith
goes_on rows k (suc m) all =
    let next : k + suc m ≡ suc (k + m) = omega arith in
    let on : continues (slice_get rows (suc (k + m))) ≡ true = rw next at (all m (omega arith)) in
    let before = goes_on rows k m (λ j lt. all j (omega (arith, lt))) in
    rw next (omega (arith, place_on rows (k + m) on, before))

not_seventeen : (rows : List Alloc) (k : ℕ) (o : Option Alloc) → IsMap rows → slice_get rows k ≡ o → continues o ≡ true → place_in_series rows k ≤ 15
not_seventeen rows k None map here on = absurd (cc)
not_seventeen rows k (Some a) map here on = no_start a.start on (nothing_at rows k a map here)
  where
    no_start : (start : Option ℕ) → is_none start ≡ true → start_fault k start (place_in_series rows k) ≡ None → place_in_series rows k ≤ 15
    no_start (Some start) on e = absurd (cc)
    no_start None on e = short k None (place_in_series rows k) (λ h. absurd (cc)) e

no_long_series : (rows : List Alloc) (k : ℕ) → IsMap rows → ((j : ℕ) → j < MAX_SERIES → continues (slice_get rows (k + j)) ≡ true) → ⊥
no_long_series rows zero map all =
    let on : continues (slice_get rows 0) ≡ true = all 0 (omega arith) in
    let off = first_starts rows (slice_get rows 0) map refl in
    absurd (cc)
no_long_series rows (suc k) map all =
    let later : (j : ℕ) → j < MAX_SERIES → continues (slice_get rows (k + suc j)) ≡ true = λ j lt. (let e : k + suc j ≡ suc k + j = omega arith in rw e (all j lt)) in
    absurd (omega (arith, goes_on rows k 16 later, not_seventeen rows (k + 16) (slice_get rows (k + 16)) map refl (later 15 (omega arith))))

-- ---- from the rules to maps

-- the m structures up to k continue a series
abbrev WentOn : List Alloc → ℕ → ℕ → Type 0
WentOn rows k m = (from : ℕ) × (k ≡ from + m) × ((j : ℕ) → j < m → continues (slice_get rows (from + suc j)) ≡ true)

one_more : (rows : List Alloc) (k m : ℕ) → continues (slice_get rows (suc k)) ≡ true → WentOn rows k m → WentOn rows (suc k) (suc m)
one_more rows k m on w =
    let here : suc k ≡ w.0 + suc m = omega (arith, w.1) in (
      w.0,
      here,
      λ j lt. elim (cases_lt j m) [
        | inl less ↦ w.2 j less
        | inr ge ↦ (let e : w.0 + suc j ≡ suc k = omega (arith, here, lt, ge) in rw e on)
      ],
    )

went_on : (rows : List Alloc) (k m : ℕ) → m ≤ place_in_series rows k → WentOn rows k m
went_on rows k zero le = (k, omega arith, λ j lt. absurd (omega (arith, lt)))
went_on rows zero (suc m) le = absurd (omega (arith, first_place rows, le))
went_on rows (suc k) (suc m) le = by_test (continues (slice_get rows (suc k))) refl (λ less. went_on rows k m less)
  where
    by_test : (b : Bool) → continues (slice_get rows (suc k)) ≡ b → (m ≤ place_in_series rows k → WentOn rows k m) → WentOn rows (suc k) (suc m)
    by_test false anew before = absurd (omega (arith, place_anew rows k anew, le))
    by_test true on before = one_more rows k m on (before (omega (arith, place_on rows k on, le)))

place_small : (rows : List Alloc) (k : ℕ) → KeepsSeriesRules rows → place_in_series rows k ≤ 15
place_small rows k keeps = elim (cases_lt (place_in_series rows k) 16) [
  | inl less ↦ omega (arith, less)
  | inr ge ↦ (let w = went_on rows k 16 ge in
      absurd (keeps.series (suc w.0) (λ j lt. (let e : suc w.0 + j ≡ w.0 + suc j = omega arith in rw e (w.2 j lt)))))
]

nothing_wrong : (rows : List Alloc) (k : ℕ) (o : Option Alloc) → KeepsSeriesRules rows → slice_get rows k ≡ o → row_fault rows k ≡ None
nothing_wrong rows k None keeps here = rw here refl
nothing_wrong rows k (Some a) keeps here = row_fault_is rows k (place_in_series rows k) a a.start None here refl refl (sym (by_start a.start k refl here))
  where
    by_start : (start : Option ℕ) (k : ℕ) → a.start ≡ start → slice_get rows k ≡ Some a → start_fault k start (place_in_series rows k) ≡ None
    by_start (Some start) k is here = rw (lt-leb FRAME_WORDS start (keeps.starts k start a here is)) refl
    by_start None zero is here =
        let on : continues (slice_get rows 0) ≡ true = ap continues here ∙ ap is_none is in
        let off = keeps.first in
        absurd (cc)
    by_start None (suc k) is here = rw (eqb-suc-zero k, le-ltb 15 (place_in_series rows (suc k)) (place_small rows (suc k) keeps)) refl

pub map_rules : (rows : List Alloc) → (IsMap rows → KeepsSeriesRules rows) × (KeepsSeriesRules rows → IsMap rows)
map_rules rows = (
  λ map. record {
    count = map.count;
    first = first_starts rows (slice_get rows 0) map refl;
    starts = λ k start a here is. in_frame k start (place_in_series rows k) (ap (λ (o : Option ℕ). start_fault k o (place_in_series rows k)) (sym is) ∙ nothing_at rows k a map here);
    series = λ k all. no_long_series rows k map all;
  },
  λ keeps. record { count = keeps.count; keep_rules = λ k lt. nothing_wrong rows k (slice_get rows k) keeps refl },
)
