-- The view of a port.
use Rattle.std.specs.Prelude.{length}
use Rattle.pon_admit.specs.Roster.{capacity, onus_of, promised_sum}
use Rattle.pon_history.specs.Chapters.{Chapter, present_state}
use Rattle.pon_history.specs.Last.{last_map}
use Rattle.pon_desk.specs.declared.view.PortView.{PortView}

-- the numbers of its present state, and its last map
abbrev pub view_of : Chapter → PortView
view_of port = let s = present_state port in record {
  next = s.next;
  cause = s.cause;
  allocs = length s.roster;
  onus = length (onus_of s.roster);
  guaranteed = promised_sum s.roster;
  capacity = capacity s.rule s.gap s.roster;
  last = last_map port;
}
