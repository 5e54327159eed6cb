-- The first series of structures, and the rest after it.
use Rattle.std.proofs.Common.{◌≡◌, ℕ, zero, suc, ◌+◌, ◌<◌, ◌≤◌, Bool, true, false, not, List, [], ◌∷◌, length, take, drop, get_or, Option, Some, None, inl, inr, refl, ap, sym, ◌∙◌, arith}
use Rattle.std.specs.Prelude.{slice_get, is_none, is_some}
use Rattle.std.proofs.lemmas.Bool.{cases_lt}
use Rattle.std.proofs.lemmas.List.{length-take-le}
use Rattle.std.proofs.lemmas.Option.{slice_get_past, slice_get_read}
use Rattle.pon_units.specs.declared.limits.TheConstants.{MAX_SERIES}
use Rattle.pon_bwmap.specs.Alloc.{Alloc}
use Rattle.pon_bwmap.specs.MapRules.{IsMap, continues}
use Rattle.pon_bwmap.proofs.SeriesLaw.{map_rules}
use Rattle.pon_link.specs.Series.{IsSeries, KeepsSeries}

-- ---- elements of a part of a list

get_front : (n k : ℕ) (xs : List Alloc) → k < n → slice_get (take n xs) k ≡ slice_get xs k
get_front zero k xs lt = absurd (omega (arith, lt))
get_front (suc n) k [] lt = refl
get_front (suc n) zero (x ∷ xs) lt = refl
get_front (suc n) (suc k) (x ∷ xs) lt = get_front n k xs (omega (arith, lt))

get_after : (n k : ℕ) (xs : List Alloc) → slice_get (drop n xs) k ≡ slice_get xs (n + k)
get_after zero k xs = let e : 0 + k ≡ k = omega arith in ap (λ (i : ℕ). slice_get xs i) (sym e)
get_after (suc n) k [] = refl
get_after (suc n) k (x ∷ xs) = let e : suc n + k ≡ suc (n + k) = omega arith in get_after n k xs ∙ ap (λ (i : ℕ). slice_get (x ∷ xs) i) (sym e)

-- ---- the first series

-- the structures from the second to number `len` continue the series
abbrev pub GoesOn : List Alloc → ℕ → Type 0
GoesOn rows len = (k : ℕ) → 0 < k → k < len → continues (slice_get rows k) ≡ true

pub is_series : (rows : List Alloc) (len : ℕ) → 0 < len → len ≤ length rows → KeepsSeries rows → GoesOn rows len → IsSeries (take len rows)
is_series rows len some within keeps goes =
    let size : length (take len rows) ≡ len = length-take-le len rows within in
    record {
      some = omega (arith, size, some);
      starts = ap continues (get_front len 0 rows some) ∙ keeps.first;
      goes_on = λ k after lt. (let within_len : k < len = omega (arith, size, lt) in ap continues (get_front len k rows within_len) ∙ goes k after within_len);
    }

pub at_most_16 : (rows : List Alloc) (len : ℕ) → KeepsSeries rows → GoesOn rows len → len ≤ MAX_SERIES
at_most_16 rows len keeps goes = elim (cases_lt len 17) [
  | inl less ↦ omega (arith, less)
  | inr ge ↦ absurd (keeps.short 1 (λ j lt. goes (1 + j) (omega arith) (omega (arith, lt, ge))))
]

pub keeps_later : (rows : List Alloc) (len : ℕ) → KeepsSeries rows → continues (slice_get rows len) ≡ false → KeepsSeries (drop len rows)
keeps_later rows len keeps stops =
    let at : len + 0 ≡ len = omega arith in
    record {
      first = ap continues (get_after len 0 rows ∙ ap (λ (i : ℕ). slice_get rows i) at) ∙ stops;
      short = λ k all. keeps.short (len + k) (λ j lt. (let e : len + (k + j) ≡ len + k + j = omega arith in
          sym (ap continues (get_after len (k + j) rows ∙ ap (λ (i : ℕ). slice_get rows i) e)) ∙ all j lt));
    }

pub one_more : (rows : List Alloc) (len : ℕ) → GoesOn rows len → continues (slice_get rows len) ≡ true → GoesOn rows (len + 1)
one_more rows len goes here k after lt = elim (cases_lt k len) [
  | inl less ↦ goes k after less
  | inr ge ↦ (let e : k ≡ len = omega (arith, lt, ge) in ap (λ (i : ℕ). continues (slice_get rows i)) e ∙ here)
]

-- no structure is left to continue the series
pub stops_at_end : (rows : List Alloc) (len : ℕ) → length rows ≤ len → continues (slice_get rows len) ≡ false
stops_at_end rows len past = ap continues (slice_get_past rows len past)

-- the structures of a map are whole series
pub map_keeps : (rows : List Alloc) → IsMap rows → KeepsSeries rows
map_keeps rows map =
    let keeps = (map_rules rows).0 map in
    record { first = keeps.first; short = keeps.series }

-- whether the tested structure continues the series
tested : (start : Option ℕ) (none v : Bool) → is_some start ≡ not none → none ≡ v → is_none start ≡ v
tested (Some s) true v e shown = absurd (cc)
tested (Some s) false v e shown = shown
tested None true v e shown = shown
tested None false v e shown = absurd (cc)

pub seen : (rows : List Alloc) (k : ℕ) (a : Alloc) (start : Option ℕ) (none v : Bool) → k < length rows → a ≡ get_or rows k a → start ≡ a.start → is_some start ≡ not none → none ≡ v → continues (slice_get rows k) ≡ v
seen rows k a start none v lt is starts test shown = ap continues (slice_get_read rows (length rows) k a refl lt is) ∙ ap is_none (sym starts) ∙ tested start none v test shown
