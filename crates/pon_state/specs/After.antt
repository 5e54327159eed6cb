-- The state after one more entry.
use Rattle.std.specs.Prelude.{ℕ, ◌+◌, ◌==◌, if◌then◌else◌, List, Option, Some, None}
use Rattle.pon_units.specs.declared.granted.Granted.{Granted}
use Rattle.pon_descr.specs.Descriptor.{Descriptor}
use Rattle.pon_admit.specs.declared.row.Row.{Row}
use Rattle.pon_admit.specs.Roster.{with_row, with_descriptor, without}
use Rattle.pon_guar.specs.Loads.{Loads, after_admitted, after_cleared, after_mapped, after_removed, after_reported}
use Rattle.pon_demand.specs.Carries.{carries_of, number_of}
use Rattle.pon_state.specs.State.{State}
use Rattle.pon_state.specs.Carries.{carries_left}
use Rattle.pon_admit.specs.declared.event.Event.{Event}
use Rattle.pon_admit.specs.declared.event.Event.TheVariants.{Admit, Change, Remove, Report, MakeMap, Fail, Restore}
use Rattle.pon_state.specs.Maps.{grants_in_map, structures}
use Rattle.pon_state.specs.declared.reply.Reply.{Reply}
use Rattle.pon_state.specs.Entry.{Entry}

-- the report book of a state
abbrev pub loads_of : State → Loads
loads_of s = record { accounts = s.book; window = s.window }

-- the parts of a state after one more entry
abbrev pub with_parts : State → ℕ → Option ℕ → List Row → List ℕ → Loads → State
with_parts s next cause rows carries loads = record {
  rule = s.rule;
  gap = s.gap;
  profile = s.profile;
  next = next;
  cause = cause;
  taken_before = s.taken_before + 1;
  roster = rows;
  book = loads.accounts;
  carries = carries;
  window = loads.window;
}

-- the carries of rows, of which one is just admitted
abbrev pub admitted_carry : State → ℕ → ℕ → ℕ
admitted_carry s i j = if i == j then 0 else number_of s.roster s.carries j

-- reports of an Alloc-ID just admitted count from the next frame on, and none does yet; its carry is 0
abbrev pub after_admit : State → Row → State
after_admit s r =
    with_parts s s.next s.cause (with_row r s.roster) (carries_of (admitted_carry s r.alloc_id) (with_row r s.roster)) (after_admitted (loads_of s) r.alloc_id s.next)

abbrev pub after_change : State → ℕ → Descriptor → State
after_change s i d = with_parts s s.next s.cause (with_descriptor i d s.roster) s.carries (loads_of s)

abbrev pub after_remove : State → ℕ → State
after_remove s i = with_parts s s.next s.cause (without i s.roster) (carries_of (number_of s.roster s.carries) (without i s.roster)) (after_removed (loads_of s) i)

abbrev pub after_report : State → ℕ → ℕ → List (Option ℕ) → State
after_report s frame u ns = with_parts s s.next s.cause s.roster s.carries (after_reported (loads_of s) frame u ns)

-- a map leaves new carries
abbrev pub after_map : State → List Granted → List ℕ → State
after_map s gs carries = with_parts s (s.next + 1) s.cause s.roster carries (after_mapped (loads_of s) s.next gs)

-- a line failure and a restoration drop the reports and the window, and keep the carries
abbrev pub after_cut : State → Option ℕ → State
after_cut s cause = with_parts s s.next cause s.roster s.carries (after_cleared (loads_of s) s.next)

-- the state after an accepted event; that of a map also depends on its reply
abbrev pub after_event : State → Event → State
after_event s (Admit row) = after_admit s row
after_event s (Change alloc_id descriptor) = after_change s alloc_id descriptor
after_event s (Remove alloc_id) = after_remove s alloc_id
after_event s (Report frame onu occ) = after_report s frame onu occ
after_event s MakeMap = s
after_event s (Fail cause) = after_cut s (Some cause)
after_event s Restore = after_cut s None

-- the state after an event and its reply: the grants of a map are those of the reply
abbrev pub after_reply : State → Event → Reply → State
after_reply s MakeMap reply = after_map s (grants_in_map s.roster (structures reply)) (carries_left s reply)
after_reply s event reply = after_event s event

abbrev pub after_entry : State → Entry → State
after_entry s e = after_reply s e.event e.reply
