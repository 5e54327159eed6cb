-- What a chapter has: the numbers of its maps, reports and other events, and the frames of its maps.
use Rattle.std.specs.Prelude.{ℕ, ◌+◌, ◌-◌, ◌==◌, Bool, true, false, List, [], ◌∷◌, length, count_by, Option, Some, None}
use Rattle.pon_admit.specs.declared.event.Event.{Event}
use Rattle.pon_admit.specs.declared.event.Event.TheVariants.{Admit, Remove, Report, Fail}
use Rattle.pon_state.specs.Maps.{makes_map}
use Rattle.pon_state.specs.declared.reply.Reply.{Reply}
use Rattle.pon_state.specs.declared.reply.Reply.TheVariants.{Taken, Map}
use Rattle.pon_state.specs.Entry.{Entry}
use Rattle.pon_record.specs.Chapters.{Body}

-- Kinds of event.

abbrev pub is_report : Event → Bool
is_report (Report frame onu occ) = true
is_report _ = false

abbrev pub is_admission : Event → Bool
is_admission (Admit r) = true
is_admission _ = false

abbrev pub is_removal : Event → Bool
is_removal (Remove alloc_id) = true
is_removal _ = false

abbrev pub is_failure : Event → Bool
is_failure (Fail cause) = true
is_failure _ = false

-- a failure with this cause
abbrev pub fails_by : ℕ → Event → Bool
fails_by n (Fail cause) = cause == n
fails_by n _ = false

-- The numbers of a list of entries.

abbrev pub map_count : List Entry → ℕ
map_count es = count_by (λ e. makes_map e.event) es

abbrev pub report_count : List Entry → ℕ
report_count es = count_by (λ e. is_report e.event) es

abbrev pub admission_count : List Entry → ℕ
admission_count es = count_by (λ e. is_admission e.event) es

abbrev pub removal_count : List Entry → ℕ
removal_count es = count_by (λ e. is_removal e.event) es

abbrev pub failure_count : List Entry → ℕ
failure_count es = count_by (λ e. is_failure e.event) es

-- the number of failures with one cause
abbrev pub cause_count : ℕ → List Entry → ℕ
cause_count n es = count_by (λ e. fails_by n e.event) es

-- The frames of the maps.

-- the frame of the map of a reply
abbrev pub frame_in : Reply → Option ℕ
frame_in Taken = None
frame_in (Map made) = Some made.frame

-- the first of two that is there
abbrev pub or_else : Option ℕ → Option ℕ → Option ℕ
or_else None other = other
or_else (Some frame) other = Some frame

-- the frame of the first map
abbrev pub first_frame : List Entry → Option ℕ
first_frame [] = None
first_frame (e ∷ es) = or_else (frame_in e.reply) (first_frame es)

-- the frame of the last map
abbrev pub last_frame : List Entry → Option ℕ
last_frame [] = None
last_frame (e ∷ es) = or_else (last_frame es) (frame_in e.reply)

-- The Alloc-IDs of a chapter.

-- the number of Alloc-IDs at the end of a chapter whose entries were accepted
abbrev pub allocs_at_end : Body → ℕ
allocs_at_end b = length b.opening.rows + admission_count b.entries - removal_count b.entries
