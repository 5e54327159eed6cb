-- The rules of the structures of a bandwidth map (ITU-T G.987.3): the first has a start, each start is in the frame,
-- and no series (a structure with a start and those after it without one) is longer than 16.
use Rattle.std.specs.Prelude.{◌≡◌, ℕ, zero, suc, ◌+◌, ◌<◌, ◌≤◌, ◌==◌, Bool, true, false, List, length, nat_le, if◌then◌else◌, Option, Some, None, is_none, option_and_then, slice_get}
use Rattle.pon_units.specs.declared.limits.TheConstants.{FRAME_WORDS, MAX_SERIES, MAX_STRUCTURES}
use Rattle.pon_bwmap.specs.Alloc.{Alloc}
use Rattle.pon_bwmap.specs.declared.fault.MapFault.{MapFault}
use Rattle.pon_bwmap.specs.declared.fault.MapFault.TheVariants.{Short, HeadHec, TooMany, StructHec, SeriesStart, StartRange, SeriesLong, Memory}

-- whether the structure exists and has no start
abbrev pub continues : Option Alloc → Bool
continues (Some a) = is_none a.start
continues None = false

-- the number of structures of its series before structure k
unfoldable pub place_in_series : List Alloc → ℕ → ℕ
place_in_series rows zero = 0
place_in_series rows (suc k) = if continues (slice_get rows (suc k)) then place_in_series rows k + 1 else 0

-- the fault of structure k, if it has this start and this place in its series
abbrev pub start_fault : ℕ → Option ℕ → ℕ → Option MapFault
start_fault k (Some start) place = if nat_le FRAME_WORDS start then Some (StartRange k) else None
start_fault k None place = if k == 0 then Some (SeriesStart k) else (if nat_le MAX_SERIES place then Some (SeriesLong k) else None)

-- the fault of structure k
abbrev pub row_fault : List Alloc → ℕ → Option MapFault
row_fault rows k = option_and_then (λ a. start_fault k a.start (place_in_series rows k)) (slice_get rows k)

-- the structures before structure n have no fault
abbrev pub FirstKeepRules : List Alloc → ℕ → Type 0
FirstKeepRules rows n = (k : ℕ) → k < n → row_fault rows k ≡ None

-- the structures make a map: at most MAX_STRUCTURES, and each keeps the rules
pub record IsMap (rows : List Alloc) : Type 0 where
  pub count : length rows ≤ MAX_STRUCTURES
  pub keep_rules : FirstKeepRules rows (length rows)

-- structure k is the first that breaks a rule, with this fault
pub record IsFirstRowFault (rows : List Alloc) (k : ℕ) (fault : MapFault) : Type 0 where
  pub count : length rows ≤ MAX_STRUCTURES
  pub within : k < length rows
  pub before : FirstKeepRules rows k
  pub here : row_fault rows k ≡ Some fault

-- this is the first fault of the structures, `TooMany` before all others
abbrev pub IsRowsFault : List Alloc → MapFault → Type 0
IsRowsFault rows TooMany = MAX_STRUCTURES < length rows
IsRowsFault rows (SeriesStart k) = IsFirstRowFault rows k (SeriesStart k)
IsRowsFault rows (StartRange k) = IsFirstRowFault rows k (StartRange k)
IsRowsFault rows (SeriesLong k) = IsFirstRowFault rows k (SeriesLong k)
IsRowsFault rows Short = ⊥
IsRowsFault rows HeadHec = ⊥
IsRowsFault rows (StructHec k) = ⊥
IsRowsFault rows Memory = ⊥

-- the rules without a running place: no 16 structures in a row continue a series, so no series is longer than 16
pub record KeepsSeriesRules (rows : List Alloc) : Type 0 where
  pub count : length rows ≤ MAX_STRUCTURES
  pub first : continues (slice_get rows 0) ≡ false
  pub starts : (k start : ℕ) (a : Alloc) → slice_get rows k ≡ Some a → a.start ≡ Some start → start < FRAME_WORDS
  pub series : (k : ℕ) → ((j : ℕ) → j < MAX_SERIES → continues (slice_get rows (k + j)) ≡ true) → ⊥
