-- The entries that may follow in a history.
use Rattle.std.specs.Prelude.{ℕ, ◌≡◌, None}
use Rattle.pon_state.specs.State.{State, carry_at, input_of}
use Rattle.pon_demand.specs.Sharing.{IsCertified, surplus_rate}
use Rattle.pon_demand.specs.Maps.{map_of}
use Rattle.pon_state.specs.Checks.{first_refusal}
use Rattle.pon_state.specs.Events.{IsEvent}
use Rattle.pon_admit.specs.declared.event.Event.{Event}
use Rattle.pon_admit.specs.declared.event.Event.TheVariants.{MakeMap}
use Rattle.pon_state.specs.declared.reply.Reply.{Reply}
use Rattle.pon_state.specs.declared.reply.Reply.TheVariants.{Taken, Map}
use Rattle.pon_state.specs.declared.reply.MadeMap.{MadeMap}
use Rattle.pon_state.specs.Entry.{Entry}

-- the map of a state: of its next frame, with an accepted certificate, and with the rates of its assignment and the
-- state's carries
pub record IsMade (s : State) (made : MadeMap) : Type 0 where
  pub frame : made.frame ≡ s.next
  pub certified : IsCertified (input_of s) made.cert
  pub map : made.map ≡ map_of s.profile (input_of s) (surplus_rate (input_of s) made.cert) (carry_at s)

-- the replies that a state may give to an event that it takes
abbrev pub IsReply : State → Event → Reply → Type 0
IsReply s MakeMap (Map made) = IsMade s made
IsReply s MakeMap Taken = ⊥
IsReply s event reply = reply ≡ Taken

-- an entry that may follow in a state, after `kept` entries of its chapter: its numbers are in range, no check refuses
-- it, and its reply is one that the state may give
pub record MayFollow (kept : ℕ) (s : State) (e : Entry) : Type 0 where
  pub event : IsEvent e.event
  pub accepted : first_refusal kept s e.event ≡ None
  pub reply : IsReply s e.event e.reply
