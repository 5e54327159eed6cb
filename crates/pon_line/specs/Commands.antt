-- The events of management lines: what the words after a command request. The first of them is word 2 of the line.
use Rattle.std.specs.Prelude.{ℕ, ◌+◌, ◌==◌, ◌||◌, nat_lt, Bool, if◌then◌else◌, List, [], ◌∷◌, length, codes, Option, Some, None, Result, Ok, Err}
use Rattle.std.specs.Str.{bytes_eq}
use Rattle.pon_units.specs.declared.limits.TheConstants.{MAX_OCCUPANCY, MAX_SERIES}
use Rattle.pon_descr.specs.Descriptor.{Descriptor}
use Rattle.pon_admit.specs.declared.event.Event.{Event}
use Rattle.pon_admit.specs.declared.event.Event.TheVariants.{Admit, Change, Fail, Remove, Report}
use Rattle.pon_lists.specs.ResultSteps.{◌>>=◌}
use Rattle.pon_line.specs.Fields.{alloc_in, descriptor_in, descriptor_words, number_field, onu_in, rate_fields}
use Rattle.pon_line.specs.Places.{at_word, of_line}
use Rattle.pon_line.specs.declared.fault.LineFault.TheVariants.{BadField, WordCount}
use Rattle.pon_line.specs.declared.fault.LineRefusal.{LineRefusal}
use Rattle.pon_line.specs.declared.field.Field.TheVariants as field

-- the events of numbers: the Alloc-ID is checked first, then the ONU-ID, then the descriptor
unfoldable pub admit : ℕ → ℕ → Descriptor → Result Event LineRefusal
admit onu alloc d = do
  i ← alloc_in 3 alloc
  u ← onu_in 2 onu
  r ← descriptor_in 4 d
  Ok (Admit (record { onu = u; alloc_id = i; descriptor = r }))

unfoldable pub change : ℕ → Descriptor → Result Event LineRefusal
change alloc d = do
  i ← alloc_in 2 alloc
  r ← descriptor_in 3 d
  Ok (Change i r)

-- the words after `admit`: onu, alloc, and a descriptor, each read in turn
unfoldable pub admit_of : List (List ℕ) → Result Event LineRefusal
admit_of (onu ∷ alloc ∷ ws) = do
  w ← descriptor_words ws
  u ← number_field 2 field.Onu onu
  i ← number_field 3 field.Alloc alloc
  d ← rate_fields 4 w
  admit u i d
admit_of _ = Err (of_line WordCount)

-- the words after `change`: alloc, and a descriptor
unfoldable pub change_of : List (List ℕ) → Result Event LineRefusal
change_of (alloc ∷ ws) = do
  w ← descriptor_words ws
  i ← number_field 2 field.Alloc alloc
  d ← rate_fields 3 w
  change i d
change_of [] = Err (of_line WordCount)

-- the one word after `remove`, `why` or `sure`: an Alloc-ID
unfoldable pub alloc_of : List (List ℕ) → Result ℕ LineRefusal
alloc_of (alloc ∷ []) = do
  i ← number_field 2 field.Alloc alloc
  alloc_in 2 i
alloc_of _ = Err (of_line WordCount)

unfoldable pub remove_of : List (List ℕ) → Result Event LineRefusal
remove_of ws = alloc_of ws >>= λ i. Ok (Remove i)

-- an occupancy in words, 0 to 16,777,215, or none for `x`, a garbled one
unfoldable pub occupancy_field : ℕ → List ℕ → Result (Option ℕ) LineRefusal
occupancy_field n w = if bytes_eq w (codes "x") then Ok None else (do
  words ← number_field n field.Occupancy w
  if nat_lt MAX_OCCUPANCY words then Err (at_word BadField n field.Occupancy) else Ok (Some words))

-- the occupancies of words, of which the first is at an index
unfoldable pub occupancy_fields : ℕ → List (List ℕ) → Result (List (Option ℕ)) LineRefusal
occupancy_fields n [] = Ok []
occupancy_fields n (w ∷ ws) = do
  o ← occupancy_field n w
  os ← occupancy_fields (n + 1) ws
  Ok (o ∷ os)

unfoldable pub report : ℕ → ℕ → List (Option ℕ) → Result Event LineRefusal
report frame onu ns = onu_in 3 onu >>= λ u. Ok (Report frame u ns)

-- a report has 1 to 16 occupancies
abbrev pub is_miscounted : List (List ℕ) → Bool
is_miscounted ws = length ws == 0 || nat_lt MAX_SERIES (length ws)

-- the words after `report`: frame, onu, and 1 to 16 occupancies
unfoldable pub report_of : List (List ℕ) → Result Event LineRefusal
report_of (frame ∷ onu ∷ ws) = if is_miscounted ws then Err (of_line WordCount) else (do
  f ← number_field 2 field.Frame frame
  u ← number_field 3 field.Onu onu
  ns ← occupancy_fields 4 ws
  report f u ns)
report_of _ = Err (of_line WordCount)

-- the one word after `fail`: a cause, 1 to 9
unfoldable pub fail_of : List (List ℕ) → Result Event LineRefusal
fail_of (cause ∷ []) = do
  n ← number_field 2 field.Cause cause
  if nat_lt n 1 || nat_lt 9 n then Err (at_word BadField 2 field.Cause) else Ok (Fail n)
fail_of _ = Err (of_line WordCount)

-- no word follows `map` and `restore`
abbrev pub no_arguments : Event → List (List ℕ) → Result Event LineRefusal
no_arguments event [] = Ok event
no_arguments event (w ∷ ws) = Err (of_line WordCount)
