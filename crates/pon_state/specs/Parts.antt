-- A state from its parts.
use Rattle.pon_state.specs.State.{State}
use Rattle.pon_state.specs.declared.parts.StateParts.{StateParts}

abbrev pub state_from : StateParts → State
state_from p = record {
  rule = p.roster.rule;
  gap = p.roster.gap;
  profile = p.profile;
  next = p.next;
  cause = p.cause;
  taken_before = p.taken_before;
  roster = p.roster.rows;
  book = p.loads.accounts;
  carries = p.carries.items;
  window = p.loads.window;
}
