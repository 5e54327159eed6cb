-- Structures that are read in order.
use Rattle.std.proofs.Common.{◌≡◌, ℕ, zero, suc, ◌+◌, ◌-◌, ◌*◌, ◌<◌, ◌≤◌, Bool, true, false, leb, ltb, List, [], ◌∷◌, ◌++◌, length, drop, get_or, Option, Some, None, IsNone, IsSome, IfSome, refl, ap, sym, ◌∙◌, subst, arith}
use Rattle.std.specs.Prelude.{slice_get, if◌then◌else◌, eqb}
use Rattle.std.proofs.lemmas.List.{drop-drop, length-append}
use Rattle.std.proofs.Math.Seq.{get_or-append_seam}
use Rattle.pon_units.specs.declared.limits.TheConstants.{FRAME_WORDS}
use Rattle.pon_bwmap.specs.Alloc.{Alloc}
use Rattle.pon_bwmap.specs.MapRules.{place_in_series, continues, start_fault, row_fault, FirstKeepRules}
use Rattle.pon_bwmap.specs.MapReading.{ReadsStructure, ReadsRows}
use Rattle.pon_bwmap.specs.MapFaults.{BreaksRule, IsRowsFirstFault}
use Rattle.pon_bwmap.specs.declared.fault.MapFault.{MapFault}
use Rattle.pon_bwmap.specs.declared.fault.MapFault.TheVariants.{SeriesStart, StartRange, SeriesLong}
use Rattle.pon_bwmap.proofs.SeriesRules.{first_place, at_structure, short, keep_more}

-- ---- one more structure

reads_more : (bytes : List ℕ) (rows : List Alloc) (corrected : ℕ) (a : Alloc) (here : ℕ) → ReadsRows bytes rows corrected → ReadsStructure (drop (8 * length rows) bytes) a here
    → ReadsRows bytes (rows ++ a ∷ []) (corrected + here)
reads_more bytes [] corrected a here none s = (here, 0, s, refl, omega (arith, none))
reads_more bytes (x ∷ rows) corrected a here r s =
    let after : drop (8 * suc (length rows)) bytes ≡ drop (8 * length rows) (drop 8 bytes) = (let e : 8 * suc (length rows) ≡ 8 + 8 * length rows = omega arith in rw e (sym (drop-drop (8 * length rows) 8 bytes))) in
    (r.0, r.1 + here, r.2, reads_more (drop 8 bytes) rows r.1 a here r.3 (subst (λ (bs : List ℕ). ReadsStructure bs a here) after s), omega (arith, r.4))

slice_get-append : (rows more : List Alloc) (i : ℕ) → i < length rows → slice_get (rows ++ more) i ≡ slice_get rows i
slice_get-append [] more i lt = absurd (omega (arith, lt))
slice_get-append (a ∷ rows) more zero lt = refl
slice_get-append (a ∷ rows) more (suc i) lt = slice_get-append rows more i (omega (arith, lt))

place-append : (rows more : List Alloc) (i : ℕ) → i < length rows → place_in_series (rows ++ more) i ≡ place_in_series rows i
unfolding place_in_series
place-append rows more zero lt = refl
place-append rows more (suc i) lt =
    ap (λ (o : Option Alloc). if continues o then place_in_series (rows ++ more) i + 1 else 0) (slice_get-append rows more (suc i) lt)
    ∙ ap (λ (n : ℕ). if continues (slice_get rows (suc i)) then n + 1 else 0) (place-append rows more i (omega (arith, lt)))

pub fault-append : (rows more : List Alloc) (i : ℕ) → i < length rows → row_fault (rows ++ more) i ≡ row_fault rows i
fault-append rows more i lt = rw (slice_get-append rows more i lt, place-append rows more i lt) refl

-- ---- the structures read so far

-- the first k structures read and keep the rules; the last of them has this place in its series
pub record GoodRows (bytes : List ℕ) (k corrected place : ℕ) : Type 0 where
  pub rows : List Alloc
  pub counted : length rows ≡ k
  pub reads : ReadsRows bytes rows corrected
  pub keep : FirstKeepRules rows k
  pub place_is : place ≡ place_in_series rows (k - 1)
  pub short : place ≤ 15
  pub few : corrected ≤ 2 * k

abbrev pub no_rows : (bytes : List ℕ) → GoodRows bytes 0 0 0
no_rows bytes = record {
  rows = [];
  counted = refl;
  reads = refl;
  keep = λ k lt. absurd (omega (arith, lt));
  place_is = sym (first_place []);
  short = omega arith;
  few = omega arith;
}

-- the last place is unchanged by one more structure
last_place : (rows more : List Alloc) (k place : ℕ) → length rows ≡ k → place ≡ place_in_series rows (k - 1) → place ≡ place_in_series (rows ++ more) (k - 1)
last_place rows more zero place counted is = is ∙ first_place rows ∙ sym (first_place (rows ++ more))
last_place rows more (suc k) place counted is =
    let back : suc k - 1 ≡ k = omega arith in
    let before : place ≡ place_in_series rows k = is ∙ ap (place_in_series rows) back in
    before ∙ sym (place-append rows more k (omega (arith, counted))) ∙ ap (place_in_series (rows ++ more)) (sym back)

keep-append : (rows more : List Alloc) (k : ℕ) → length rows ≡ k → FirstKeepRules rows k → FirstKeepRules (rows ++ more) k
keep-append rows more k counted keep i lt = fault-append rows more i (omega (arith, lt, counted)) ∙ keep i lt

-- the fault that the code finds at structure k is its fault
pub found_at : (bytes : List ℕ) (k corrected place next : ℕ) (a : Alloc) (start : Option ℕ) (fault : Option MapFault) (g : GoodRows bytes k corrected place) → start ≡ a.start
    → (k ≡ 0 → next ≡ 0) → (IsSome start → next ≡ 0) → (0 < k → IsNone start → next ≡ place + 1) → fault ≡ start_fault k start next
    → (next ≡ place_in_series (g.rows ++ a ∷ []) k) × (row_fault (g.rows ++ a ∷ []) k ≡ fault)
found_at bytes k corrected place next a start fault g is first starts goes_on found =
    let long : length (g.rows ++ a ∷ []) ≡ k + 1 = length-append g.rows (a ∷ []) ∙ omega (arith, g.counted) in
    let at : get_or (g.rows ++ a ∷ []) k a ≡ a = ap (λ (i : ℕ). get_or (g.rows ++ a ∷ []) i a) (sym g.counted) ∙ get_or-append_seam g.rows a [] a in
    at_structure (g.rows ++ a ∷ []) k place next a start fault (omega (arith, long)) (sym at) is (last_place g.rows (a ∷ []) k place g.counted g.place_is) first starts goes_on found

here_reads : (bytes : List ℕ) (k corrected place here : ℕ) (a : Alloc) (g : GoodRows bytes k corrected place) → ReadsStructure (drop (8 * k) bytes) a here → ReadsRows bytes (g.rows ++ a ∷ []) (corrected + here)
here_reads bytes k corrected place here a g s = reads_more bytes g.rows corrected a here g.reads (subst (λ (n : ℕ). ReadsStructure (drop (8 * n) bytes) a here) (sym g.counted) s)

-- one more structure that keeps the rules
pub one_more : (bytes : List ℕ) (k corrected place next here : ℕ) (a : Alloc) (start : Option ℕ) (g : GoodRows bytes k corrected place) → ReadsStructure (drop (8 * k) bytes) a here → start ≡ a.start
    → (k ≡ 0 → next ≡ 0) → (IsSome start → next ≡ 0) → (0 < k → IsNone start → next ≡ place + 1) → start_fault k start next ≡ None
    → (h : GoodRows bytes (k + 1) (corrected + here) next) × (h.rows ≡ g.rows ++ a ∷ [])
one_more bytes k corrected place next here a start g s is first starts goes_on none =
    let at = found_at bytes k corrected place next a start None g is first starts goes_on (sym none) in
    let back : k + 1 - 1 ≡ k = omega arith in (
      record {
        rows = g.rows ++ a ∷ [];
        counted = length-append g.rows (a ∷ []) ∙ omega (arith, g.counted);
        reads = here_reads bytes k corrected place here a g s;
        keep = keep_more (g.rows ++ a ∷ []) k (keep-append g.rows (a ∷ []) k g.counted g.keep) at.1;
        place_is = at.0 ∙ sym (ap (place_in_series (g.rows ++ a ∷ [])) back);
        short = short k start next starts none;
        few = omega (arith, g.few, s.word.few, s.word.differs);
      },
      refl,
    )

-- ---- faults

breaks_at : (bytes : List ℕ) (count k : ℕ) (start : Option ℕ) (place : ℕ) → k < count → ((fault : MapFault) → start_fault k start place ≡ Some fault → BreaksRule bytes k fault)
    → IfSome (start_fault k start place) (IsRowsFirstFault bytes count)
breaks_at bytes count k (Some s) place lt breaks = by_test (leb FRAME_WORDS s) (breaks (StartRange k))
  where
    by_test : (b : Bool) → ((if b then Some (StartRange k) else None) ≡ Some (StartRange k) → BreaksRule bytes k (StartRange k)) → IfSome (if b then Some (StartRange k) else None) (IsRowsFirstFault bytes count)
    by_test true is = (lt, is refl)
    by_test false is = tt
breaks_at bytes count k None place lt breaks = by_tests (eqb k 0) (ltb 15 place) (breaks (SeriesStart k)) (breaks (SeriesLong k))
  where
    by_tests : (b late : Bool) → ((if b then Some (SeriesStart k) else (if late then Some (SeriesLong k) else None)) ≡ Some (SeriesStart k) → BreaksRule bytes k (SeriesStart k))
        → ((if b then Some (SeriesStart k) else (if late then Some (SeriesLong k) else None)) ≡ Some (SeriesLong k) → BreaksRule bytes k (SeriesLong k))
        → IfSome (if b then Some (SeriesStart k) else (if late then Some (SeriesLong k) else None)) (IsRowsFirstFault bytes count)
    by_tests true late is_start is_long = (lt, is_start refl)
    by_tests false true is_start is_long = (lt, is_long refl)
    by_tests false false is_start is_long = tt

-- a structure that breaks a rule is the first fault
pub first_break : (bytes : List ℕ) (count k corrected place next here : ℕ) (a : Alloc) (start : Option ℕ) (fault : MapFault) (g : GoodRows bytes k corrected place) → k < count
    → ReadsStructure (drop (8 * k) bytes) a here → start ≡ a.start → (k ≡ 0 → next ≡ 0) → (IsSome start → next ≡ 0) → (0 < k → IsNone start → next ≡ place + 1) → Some fault ≡ start_fault k start next
    → IsRowsFirstFault bytes count fault
first_break bytes count k corrected place next here a start fault g lt s is first starts goes_on found =
    let breaks : (f : MapFault) → start_fault k start next ≡ Some f → BreaksRule bytes k f =
    λ f e. record {
      rows = g.rows ++ a ∷ [];
      corrected = corrected + here;
      counted = length-append g.rows (a ∷ []) ∙ omega (arith, g.counted);
      reads = here_reads bytes k corrected place here a g s;
      keep = keep-append g.rows (a ∷ []) k g.counted g.keep;
      breaks = (found_at bytes k corrected place next a start (Some f) g is first starts goes_on (sym e)).1;
    } in
    subst (λ (o : Option MapFault). IfSome o (IsRowsFirstFault bytes count)) (sym found) (breaks_at bytes count k start next lt breaks)
