-- What a port keeps, and its finished map.
use Rattle.std.specs.Prelude.{ℕ, ◌≡◌, List, Option, Some, None, slice_get}
use Rattle.pon_units.specs.Granted.{AreInMapOrder}
use Rattle.pon_descr.specs.declared.class.Class.TheVariants.{NonAssured, BestEffort}
use Rattle.pon_demand.specs.Sharing.{member_ids}
use Rattle.pon_state.specs.State.{State}
use Rattle.pon_state.specs.Legal.{IsMade}
use Rattle.pon_state.specs.Maps.{grants_in_map}
use Rattle.pon_state.specs.Carries.{carries_left}
use Rattle.pon_state.specs.declared.reply.Reply.TheVariants.{Map}
use Rattle.pon_state.specs.declared.reply.MadeMap.{MadeMap}
use Rattle.pon_state.specs.Entry.{Entry}
use Rattle.pon_port.specs.declared.next_map.ReadyMap.{ReadyMap}
use Rattle.pon_history.specs.Chapters.{Chapter}
use Rattle.pon_state.specs.Ranges.{IsStateInRange}
use Rattle.pon_history.specs.Last.{MatchesMembers, last_map}
use Rattle.pon_history.specs.Taking.{IsKept}

-- a finished map of a state: its reply, its grants with what they leave, and the Alloc-IDs of the two classes that share surplus
pub record IsReady (s : State) (next : ReadyMap) : Type 0 where
  pub made : IsMade s next.made
  pub map_order : AreInMapOrder next.grants.items
  pub grants : next.grants.items ≡ grants_in_map s.roster next.made.map
  pub carries : next.carries.items ≡ carries_left s (Map next.made)
  pub na : next.na.items ≡ member_ids NonAssured s.roster
  pub be : next.be.items ≡ member_ids BestEffort s.roster

-- the k-th entry is the last map, and the Alloc-IDs of the two classes are those whose items its certificate has
pub record KeepsLastAt (c : Chapter) (k : ℕ) (na be : List ℕ) : Type 0 where
  pub made : MadeMap
  pub entry : Entry
  pub at : slice_get c.entries k ≡ Some entry
  pub is_map : entry.reply ≡ Map made
  pub is_last : last_map c ≡ Some (record { made = made; na = na; be = be })
  pub members : MatchesMembers made.cert na be

-- the index of the last map's entry, if there is a map
abbrev pub KeepsLast : Chapter → Option ℕ → List ℕ → List ℕ → Type 0
KeepsLast c None na be = last_map c ≡ None
KeepsLast c (Some k) na be = KeepsLastAt c k na be

-- a port: what it keeps, from an opening in range, and the index of its last map with the Alloc-IDs of the classes that shared surplus in it
pub record IsPort (c : Chapter) (state : State) (last_place : Option ℕ) (na be : List ℕ) : Type 0 where
  pub kept : IsKept c state
  pub in_range : IsStateInRange c.opening
  pub last : KeepsLast c last_place na be
