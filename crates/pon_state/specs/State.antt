-- The state of a port.
use Rattle.std.specs.Prelude.{ℕ, if◌then◌else◌, List, [], Option, Some, None}
use Rattle.pon_admit.specs.declared.row.Row.{Row}
use Rattle.pon_admit.specs.declared.rule.Rule.{Rule}
use Rattle.pon_admit.specs.Roster.{has_alloc, rule_in_force}
use Rattle.pon_guar.specs.declared.account.Account.{Account}
use Rattle.pon_guar.specs.Window.{WindowMap}
use Rattle.pon_demand.specs.Carries.{number_of}
use Rattle.pon_demand.specs.Input.{Input}

pub record State : Type 0 where
  pub rule : Rule  -- the rule that the port is under
  pub gap : ℕ
  pub profile : ℕ
  pub next : ℕ  -- the next frame
  pub cause : Option ℕ  -- why the port is failed, where it is
  pub taken_before : ℕ  -- entries taken before this state
  pub roster : List Row
  pub book : List Account
  pub carries : List ℕ  -- what the last map left to each row, in map order
  pub window : List WindowMap

-- the share input of the next map
abbrev pub input_of : State → Input
input_of s = record { rule = s.rule; gap = s.gap; roster = s.roster; book = s.book }

-- the carry of a row
abbrev pub carry_at : State → Row → ℕ
carry_at s r = number_of s.roster s.carries r.alloc_id

-- the carry of an Alloc-ID; none if it is not admitted
abbrev pub carry_of : State → ℕ → Option ℕ
carry_of s i = if has_alloc i s.roster then Some (number_of s.roster s.carries i) else None

-- a port just opened under a rule: no rows, no window, not failed, nothing taken before
abbrev pub opened_under : Rule → ℕ → ℕ → ℕ → State
opened_under rule gap profile first = record {
  rule = rule;
  gap = gap;
  profile = profile;
  next = first;
  cause = None;
  taken_before = 0;
  roster = [];
  book = [];
  carries = [];
  window = [];
}

-- a port just opened under the rule in force
abbrev pub just_opened : ℕ → ℕ → ℕ → State
just_opened gap profile first = opened_under rule_in_force gap profile first
