-- The rules of series, structure by structure.
use Rattle.std.proofs.Common.{◌≡◌, ℕ, zero, suc, ◌+◌, ◌-◌, ◌<◌, ◌≤◌, Bool, true, false, leb, ltb, List, length, get_or, Option, Some, None, IsNone, IsSome, IfSome, refl, ap, sym, ◌∙◌, arith, rules}
use Rattle.std.specs.Prelude.{slice_get, if◌then◌else◌, is_none, is_some, eqb}
use Rattle.std.proofs.lemmas.Option.{slice_get_read}
use Rattle.pon_units.specs.declared.limits.TheConstants.{FRAME_WORDS, MAX_STRUCTURES}
use Rattle.pon_bwmap.specs.Alloc.{Alloc}
use Rattle.pon_bwmap.specs.MapRules.{place_in_series, continues, start_fault, row_fault, FirstKeepRules, IsMap, IsRowsFault}
use Rattle.pon_bwmap.specs.declared.fault.MapFault.{MapFault}
use Rattle.pon_bwmap.specs.declared.fault.MapFault.TheVariants.{SeriesStart, StartRange, SeriesLong}

-- ---- places

by_start : (start : Option ℕ) (before place : ℕ) → (IsSome start → place ≡ 0) → (IsNone start → place ≡ before + 1) → place ≡ (if is_none start then before + 1 else 0)
by_start (Some s) before place starts goes_on = starts refl
by_start None before place starts goes_on = goes_on refl

pub first_place : (rows : List Alloc) → place_in_series rows 0 ≡ 0
unfolding place_in_series
first_place rows = refl

next_place : (rows : List Alloc) (k before place : ℕ) (a : Alloc) → slice_get rows k ≡ Some a → before ≡ place_in_series rows (k - 1) → (k ≡ 0 → place ≡ 0) → (IsSome a.start → place ≡ 0)
    → (0 < k → IsNone a.start → place ≡ before + 1) → place ≡ place_in_series rows k
unfolding place_in_series
next_place rows zero before place a here was first starts goes_on = first refl
next_place rows (suc k) before place a here was first starts goes_on =
    let back : suc k - 1 ≡ k = omega arith in
    let same : before ≡ place_in_series rows k = was ∙ ap (place_in_series rows) back in
    by_start a.start before place starts (goes_on (omega arith)) ∙ ap (λ (n : ℕ). if is_none a.start then n + 1 else 0) same
    ∙ ap (λ (o : Option Alloc). if continues o then place_in_series rows k + 1 else 0) (sym here)

-- ---- faults

-- the fault that the code finds at structure k is its fault
pub row_fault_is : (rows : List Alloc) (k place : ℕ) (a : Alloc) (start : Option ℕ) (fault : Option MapFault) → slice_get rows k ≡ Some a → start ≡ a.start → place ≡ place_in_series rows k
    → fault ≡ start_fault k start place → row_fault rows k ≡ fault
row_fault_is rows k place a start fault here is at found =
    rw here (ap (start_fault k a.start) (sym at) ∙ ap (λ (o : Option ℕ). start_fault k o place) (sym is) ∙ sym found)

-- the facts that the code has at structure k
pub at_structure : (rows : List Alloc) (k before place : ℕ) (a : Alloc) (start : Option ℕ) (fault : Option MapFault) → k < length rows → a ≡ get_or rows k a → start ≡ a.start
    → before ≡ place_in_series rows (k - 1) → (k ≡ 0 → place ≡ 0) → (IsSome start → place ≡ 0) → (0 < k → IsNone start → place ≡ before + 1) → fault ≡ start_fault k start place
    → (place ≡ place_in_series rows k) × (row_fault rows k ≡ fault)
at_structure rows k before place a start fault lt at is was first starts goes_on found =
    let here = slice_get_read rows (length rows) k a refl lt at in
    let there = next_place rows k before place a here was first (rw is at starts) (rw is at goes_on) in
    (there, row_fault_is rows k place a start fault here is there found)

pub is_nothing : (fault : Option MapFault) → is_some fault ≡ false → fault ≡ None
is_nothing None e = refl
is_nothing (Some fault) e = absurd (cc)

-- a structure without a fault is not the seventeenth of its series
pub short : (k : ℕ) (start : Option ℕ) (place : ℕ) → (IsSome start → place ≡ 0) → start_fault k start place ≡ None → place ≤ 15
short k (Some s) place starts none = omega (arith, starts refl)
short k None place starts none = by_tests (eqb k 0) (ltb 15 place) refl none
  where
    by_tests : (b late : Bool) → ltb 15 place ≡ late → (if b then Some (SeriesStart k) else (if late then Some (SeriesLong k) else None)) ≡ None → place ≤ 15
    by_tests true late is none = absurd (cc)
    by_tests false true is none = absurd (cc)
    by_tests false false is none = search (rules, is)

pub keep_more : (rows : List Alloc) (k : ℕ) → FirstKeepRules rows k → row_fault rows k ≡ None → FirstKeepRules rows (k + 1)
keep_more rows k before here i lt = grind (arith, before i)

-- the first structure with a fault
first_fault_at : (rows : List Alloc) (k : ℕ) (start : Option ℕ) (place : ℕ) → length rows ≤ MAX_STRUCTURES → k < length rows → FirstKeepRules rows k → row_fault rows k ≡ start_fault k start place
    → IfSome (start_fault k start place) (IsRowsFault rows)
first_fault_at rows k (Some s) place count within before here = by_test (leb FRAME_WORDS s) here
  where
    by_test : (b : Bool) → row_fault rows k ≡ (if b then Some (StartRange k) else None) → IfSome (if b then Some (StartRange k) else None) (IsRowsFault rows)
    by_test true here = record { count = count; within = within; before = before; here = here }
    by_test false here = tt
first_fault_at rows k None place count within before here = by_tests (eqb k 0) (ltb 15 place) here
  where
    by_tests : (b late : Bool) → row_fault rows k ≡ (if b then Some (SeriesStart k) else (if late then Some (SeriesLong k) else None))
        → IfSome (if b then Some (SeriesStart k) else (if late then Some (SeriesLong k) else None)) (IsRowsFault rows)
    by_tests true late here = record { count = count; within = within; before = before; here = here }
    by_tests false true here = record { count = count; within = within; before = before; here = here }
    by_tests false false here = tt

pub first_fault : (rows : List Alloc) (k : ℕ) (start : Option ℕ) (place : ℕ) (fault : Option MapFault) → length rows ≤ MAX_STRUCTURES → k < length rows → FirstKeepRules rows k → row_fault rows k ≡ fault
    → fault ≡ start_fault k start place → IfSome fault (IsRowsFault rows)
first_fault rows k start place fault count within before here found = rw found (first_fault_at rows k start place count within before (here ∙ found))

pub no_map : (rows : List Alloc) (k : ℕ) (fault : Option MapFault) → k < length rows → row_fault rows k ≡ fault → IsMap rows → is_some fault ≡ false
no_map rows k fault within here map = ap is_some (sym here ∙ map.keep_rules k within)
