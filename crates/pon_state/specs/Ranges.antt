-- The ranges of the parts of a state that a port made (ITU-T G.987.3: ONU-ID, Alloc-ID, BufOcc, GrantSize; causes are this
-- project's). A recording has room for a lawful opening in these ranges.
use Rattle.std.specs.Prelude.{◌≡◌, ◌≤◌, All, List, length, IfSome}
use Rattle.pon_units.specs.declared.limits.TheConstants.{FRAME_WORDS, MAX_ALLOC_ID, MAX_OCCUPANCY, MAX_ONUS, MAX_ONU_ID, MIN_ALLOC_ID}
use Rattle.pon_units.specs.declared.granted.Granted.{Granted}
use Rattle.pon_units.specs.Granted.{onus_granted}
use Rattle.pon_admit.specs.Roster.{max_allocs, rule_in_force}
use Rattle.pon_state.specs.State.{State}

pub record IsGrantInRange (g : Granted) : Type 0 where
  pub onu : g.onu ≤ MAX_ONU_ID
  pub managed : MIN_ALLOC_ID ≤ g.alloc_id
  pub alloc_id : g.alloc_id ≤ MAX_ALLOC_ID
  pub words : g.words ≤ FRAME_WORDS

-- the grants of a map that a port made under the rule in force
pub record AreGrantsInRange (gs : List Granted) : Type 0 where
  pub few : length gs ≤ max_allocs rule_in_force
  pub few_onus : length (onus_granted gs) ≤ MAX_ONUS
  pub each : All IsGrantInRange gs

pub record IsStateInRange (s : State) : Type 0 where
  pub rule : s.rule ≡ rule_in_force
  pub cause : IfSome s.cause (λ c. (1 ≤ c) × (c ≤ 9))
  pub reports : All (λ a. IfSome a.counted (λ c. c.words ≤ MAX_OCCUPANCY)) s.book
  pub maps : All (λ m. AreGrantsInRange m.grants) s.window
