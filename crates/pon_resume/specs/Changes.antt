-- The changes after which a port has the Alloc-IDs of its settings.
use Rattle.std.specs.Prelude.{◌≡◌, ◌==◌, ◌&&◌, ◌++◌, All, Any, Bool, true, false, not, if◌then◌else◌, List, Option, Some, None, filter_map}
use Rattle.std.specs.List.{list_any}
use Rattle.pon_descr.specs.declared.class.Class.{Class}
use Rattle.pon_descr.specs.declared.class.Class.TheVariants.{Plain, NonAssured, BestEffort}
use Rattle.pon_descr.specs.Descriptor.{Descriptor}
use Rattle.pon_admit.specs.declared.event.Event.{Event}
use Rattle.pon_admit.specs.declared.event.Event.TheVariants as event
use Rattle.pon_admit.specs.declared.row.Row.{Row}
use Rattle.pon_settings.specs.declared.row.SettingsRow.{SettingsRow}
use Rattle.pon_resume.specs.declared.changes.Change.{Change}
use Rattle.pon_resume.specs.declared.changes.Change.TheVariants as change

-- the event of a change
abbrev pub event_of : Change → Event
event_of (change.Remove i) = event.Remove i
event_of (change.Descriptor i d) = event.Change i d
event_of (change.Admit r) = event.Admit r

-- the classes are the same
abbrev pub is_same_class : Class → Class → Bool
is_same_class Plain Plain = true
is_same_class NonAssured NonAssured = true
is_same_class BestEffort BestEffort = true
is_same_class _ _ = false

-- the descriptors have the same rates and the same class
abbrev pub is_same : Descriptor → Descriptor → Bool
is_same d e = d.fixed == e.fixed && (d.assured == e.assured && (d.max == e.max && is_same_class d.class e.class))

-- the rows have the same Alloc-ID at the same ONU
abbrev pub is_at : Row → Row → Bool
is_at r s = r.alloc_id == s.alloc_id && r.onu == s.onu

-- the rows have the same Alloc-ID at the same ONU, with other descriptors
abbrev pub differs : Row → Row → Bool
differs r s = is_at r s && not (is_same r.descriptor s.descriptor)

-- a row of a port is removed, if the settings lack its Alloc-ID or have it at another ONU
abbrev pub removal_for : List SettingsRow → Row → Option Change
removal_for wanted r = if list_any (λ w. is_at w.row r) wanted then None else Some (change.Remove r.alloc_id)

-- a row of the settings gives its descriptor, if the port has its Alloc-ID at its ONU with another one
abbrev pub descriptor_for : List Row → SettingsRow → Option Change
descriptor_for rows w = if list_any (λ r. differs r w.row) rows then Some (change.Descriptor w.row.alloc_id w.row.descriptor) else None

-- a row of the settings is admitted, if the port lacks its Alloc-ID or has it at another ONU
abbrev pub admission_for : List Row → SettingsRow → Option Change
admission_for rows w = if list_any (λ r. is_at r w.row) rows then None else Some (change.Admit w.row)

-- first the removals, then the descriptors, then the admissions
abbrev pub changes_between : List SettingsRow → List Row → List Change
changes_between wanted rows =
    filter_map (removal_for wanted) rows ++ (filter_map (descriptor_for rows) wanted ++ filter_map (admission_for rows) wanted)

-- each row of the port is one of the settings, and each one of the settings is a row of the port
pub record HasRows (wanted : List SettingsRow) (rows : List Row) : Type 0 where
  pub no_others : All (λ r. Any (λ w. w.row ≡ r) wanted) rows
  pub each : All (λ w. Any (λ r. r ≡ w.row) rows) wanted
