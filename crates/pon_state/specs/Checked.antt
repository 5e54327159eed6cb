-- Events that no check refuses, with what the checks found.
use Rattle.std.specs.Prelude.{◌≡◌, ℕ, length, None}
use Rattle.pon_admit.specs.declared.event.Event.{Event}
use Rattle.pon_admit.specs.declared.event.Event.TheVariants as event
use Rattle.pon_guar.specs.AcceptedReports.{IsAccepted}
use Rattle.pon_state.specs.State.{State}
use Rattle.pon_state.specs.Checks.{first_refusal}
use Rattle.pon_state.specs.declared.checks.Checked.{Checked}
use Rattle.pon_state.specs.declared.checks.Checked.TheVariants.{Admit, Change, Remove, Report, MakeMap, Fail, Restore}

-- the event that was checked
abbrev pub event_of : Checked → Event
event_of (Admit row) = event.Admit row.now
event_of (Change alloc_id descriptor) = event.Change alloc_id descriptor.now
event_of (Remove alloc_id) = event.Remove alloc_id
event_of (Report report occ) = event.Report report.frame report.onu occ.now
event_of MakeMap = event.MakeMap
event_of (Fail cause) = event.Fail cause
event_of Restore = event.Restore

-- what was found holds in a state: the map of a report is where it was found
abbrev pub IsFound : State → Checked → Type 0
IsFound s (Report report occ) = IsAccepted s.window report.frame report.onu (length occ.now) report
IsFound s checked = Unit {0}

-- an event that no check refuses after `kept` entries of its chapter, with what the checks found
pub record IsChecked (kept : ℕ) (s : State) (event : Event) (checked : Checked) : Type 0 where
  pub is : event_of checked ≡ event
  pub found : IsFound s checked
  pub accepted : first_refusal kept s event ≡ None
