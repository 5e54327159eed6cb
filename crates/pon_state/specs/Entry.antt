-- An entry of a history.
use Rattle.pon_admit.specs.declared.event.Event.{Event}
use Rattle.pon_state.specs.declared.reply.Reply.{Reply}

-- an event that was taken, and its reply
pub record Entry : Type 0 where
  pub event : Event
  pub reply : Reply
