-- What is kept of an entry: the event, or the map that it got.
use Rattle.pon_admit.specs.declared.event.Event.TheVariants.{MakeMap}
use Rattle.pon_state.specs.declared.reply.Reply.TheVariants as reply
use Rattle.pon_state.specs.declared.entry.Kept.{Kept}
use Rattle.pon_state.specs.declared.entry.Kept.TheVariants.{Taken, Map}
use Rattle.pon_state.specs.Entry.{Entry}

-- the entry that is kept so
abbrev pub kept_as : Kept → Entry
kept_as (Taken event) = record { event = event; reply = reply.Taken }
kept_as (Map made) = record { event = MakeMap; reply = reply.Map made }
