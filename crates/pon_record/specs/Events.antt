-- The events of a chapter: a tag and the fields of the event.
use Rattle.std.specs.Prelude.{ℕ, ◌==◌, nat_le, if◌then◌else◌, List, [], ◌∷◌, Option, Some, None}
use Rattle.std.specs.Int.{w8, w32}
use Rattle.pon_lists.specs.OptionSteps.{◌>>=◌}
use Rattle.pon_units.specs.declared.limits.TheConstants.{MAX_OCCUPANCY, MAX_SERIES}
use Rattle.pon_descr.specs.Descriptor.{Descriptor}
use Rattle.pon_admit.specs.declared.event.Event.{Event}
use Rattle.pon_admit.specs.declared.event.Event.TheVariants.{Admit, Change, Remove, Report, MakeMap, Fail, Restore}
use Rattle.pon_record.specs.declared.codes.TheConstants.{GARBLED}
use Rattle.pon_record.specs.Format.{Format, ◌&◌, counted, number, only, told_by}
use Rattle.pon_record.specs.Fields.{alloc_id, cause, descriptor, frame, onu_id}

-- the words of an occupancy, or all ones if the report was garbled
abbrev pub occupancy_meaning : ℕ → Option (Option ℕ)
occupancy_meaning n = if n == GARBLED then Some None else if nat_le n MAX_OCCUPANCY then Some (Some n) else None

abbrev pub occupancy_code : Option ℕ → ℕ
occupancy_code None = GARBLED
occupancy_code (Some n) = n

abbrev pub occupancy : Format (Option ℕ)
occupancy = told_by occupancy_meaning occupancy_code (number w32)

abbrev pub occupancies : Format (List (Option ℕ))
occupancies = counted (only (λ n. nat_le 1 n) (number w8)) MAX_SERIES occupancy

-- The fields of each kind of event.

abbrev pub admit_fields : Format (ℕ × (ℕ × Descriptor))
admit_fields = onu_id & alloc_id & descriptor

abbrev pub change_fields : Format (ℕ × Descriptor)
change_fields = alloc_id & descriptor

abbrev pub report_fields : Format (ℕ × (ℕ × List (Option ℕ)))
report_fields = frame & onu_id & occupancies

abbrev pub EventFits : Event → Type 0
EventFits (Admit r) = admit_fields.Fits (r.onu, (r.alloc_id, r.descriptor))
EventFits (Change i d) = change_fields.Fits (i, d)
EventFits (Remove i) = alloc_id.Fits i
EventFits (Report f u occ) = report_fields.Fits (f, (u, occ))
EventFits (Fail c) = cause.Fits c
EventFits _ = Unit {0}

-- the tag of a kind of event
abbrev pub event_tag : Event → ℕ
event_tag (Admit r) = 1
event_tag (Change i d) = 2
event_tag (Remove i) = 3
event_tag (Report f u occ) = 4
event_tag MakeMap = 5
event_tag (Fail c) = 6
event_tag Restore = 7

-- the bytes of an event after its tag
abbrev pub event_fields : Event → List ℕ
event_fields (Admit r) = admit_fields.write (r.onu, (r.alloc_id, r.descriptor))
event_fields (Change i d) = change_fields.write (i, d)
event_fields (Remove i) = alloc_id.write i
event_fields (Report f u occ) = report_fields.write (f, (u, occ))
event_fields MakeMap = []
event_fields (Fail c) = cause.write c
event_fields Restore = []

abbrev pub event_bytes : Event → List ℕ
event_bytes e = event_tag e ∷ event_fields e

-- the event with this tag
abbrev pub event_at : ℕ → List ℕ → Option (Event × List ℕ)
event_at tag bytes =
    if tag == 1 then (admit_fields.read bytes >>= λ x. Some (Admit (record { onu = x.0.0; alloc_id = x.0.1.0; descriptor = x.0.1.1 }), x.1))
    else if tag == 2 then (change_fields.read bytes >>= λ x. Some (Change x.0.0 x.0.1, x.1))
    else if tag == 3 then (alloc_id.read bytes >>= λ x. Some (Remove x.0, x.1))
    else if tag == 4 then (report_fields.read bytes >>= λ x. Some (Report x.0.0 x.0.1.0 x.0.1.1, x.1))
    else if tag == 5 then Some (MakeMap, bytes)
    else if tag == 6 then (cause.read bytes >>= λ x. Some (Fail x.0, x.1))
    else if tag == 7 then Some (Restore, bytes)
    else None

abbrev pub event : Format Event
event = record { Fits = EventFits; write = event_bytes; read = λ bytes. (number w8).read bytes >>= λ tag. event_at tag.0 tag.1 }
