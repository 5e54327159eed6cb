-- The state after a history, each part of it as a function of the opening and of all entries.
use Rattle.std.specs.Prelude.{◌+◌, List, length}
use Rattle.pon_demand.specs.Carries.{carries_of}
use Rattle.pon_state.specs.State.{State}
use Rattle.pon_state.specs.Entry.{Entry}
use Rattle.pon_history.specs.Carries.{carry_after}
use Rattle.pon_history.specs.Parts.{cause_of, next_of, roster_of}
use Rattle.pon_history.specs.Reports.{book_of}
use Rattle.pon_history.specs.Windows.{window_of}

abbrev pub closed_form : State → List Entry → State
closed_form o es = record {
  rule = o.rule;
  gap = o.gap;
  profile = o.profile;
  next = next_of o.next es;
  cause = cause_of o.cause es;
  taken_before = o.taken_before + length es;
  roster = roster_of o.roster es;
  book = book_of o es;
  carries = carries_of (carry_after o es) (roster_of o.roster es);
  window = window_of o es;
}
