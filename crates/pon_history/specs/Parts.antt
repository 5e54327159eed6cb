-- The next frame, the cause, the roster and the Alloc-IDs of the report book as functions of a whole history.
use Rattle.std.specs.Prelude.{ℕ, ◌+◌, ◌==◌, ◌||◌, ◌&&◌, Bool, true, false, if◌then◌else◌, List, [], ◌∷◌, count_by, Option, Some, None}
use Rattle.pon_admit.specs.declared.row.Row.{Row}
use Rattle.pon_admit.specs.Roster.{with_descriptor, with_row, without}
use Rattle.pon_guar.specs.Book.{with_alloc, without_alloc}
use Rattle.pon_admit.specs.declared.event.Event.{Event}
use Rattle.pon_admit.specs.declared.event.Event.TheVariants.{Admit, Change, Remove, Report, Fail, Restore}
use Rattle.pon_state.specs.Entry.{Entry}
use Rattle.pon_state.specs.Maps.{makes_map}

-- Kinds of event.

-- Fail and Restore drop the reports and the window
abbrev pub forgets : Event → Bool
forgets (Fail cause) = true
forgets Restore = true
forgets _ = false

abbrev pub admits : ℕ → Event → Bool
admits i (Admit r) = r.alloc_id == i
admits i _ = false

abbrev pub is_report_for : ℕ → ℕ → Event → Bool
is_report_for frame u (Report of_frame onu occ) = of_frame == frame && onu == u
is_report_for frame u _ = false

-- an entry after which only later reports of an Alloc-ID count
abbrev pub begins : ℕ → Entry → Bool
begins i e = admits i e.event || forgets e.event

-- Parts of the state.

-- the next frame
abbrev pub next_of : ℕ → List Entry → ℕ
next_of first es = first + count_by (λ e. makes_map e.event) es

-- the cause of the last Fail, none after a Restore
abbrev pub cause_after : Option ℕ → Event → Option ℕ
cause_after cause (Fail c) = Some c
cause_after cause Restore = None
cause_after cause _ = cause

abbrev pub cause_of : Option ℕ → List Entry → Option ℕ
cause_of cause [] = cause
cause_of cause (e ∷ es) = cause_of (cause_after cause e.event) es

-- the roster after an event: a row is added, changed or removed
abbrev pub roster_after : List Row → Event → List Row
roster_after rows (Admit r) = with_row r rows
roster_after rows (Change alloc_id descriptor) = with_descriptor alloc_id descriptor rows
roster_after rows (Remove alloc_id) = without alloc_id rows
roster_after rows _ = rows

abbrev pub roster_of : List Row → List Entry → List Row
roster_of rows [] = rows
roster_of rows (e ∷ es) = roster_of (roster_after rows e.event) es

-- the Alloc-IDs of the report book
abbrev pub allocs_after : List ℕ → Event → List ℕ
allocs_after ids (Admit r) = with_alloc r.alloc_id ids
allocs_after ids (Remove alloc_id) = without_alloc alloc_id ids
allocs_after ids _ = ids

abbrev pub allocs_of : List ℕ → List Entry → List ℕ
allocs_of ids [] = ids
allocs_of ids (e ∷ es) = allocs_of (allocs_after ids e.event) es

-- the next frame at the last entry that passes a test, or `start` if none does
abbrev pub frame_at_last : (Entry → Bool) → ℕ → ℕ → List Entry → ℕ
frame_at_last test start next [] = start
frame_at_last test start next (e ∷ es) = frame_at_last test (if test e then next else start) (next_of next (e ∷ [])) es
