-- An entry by its parts, and by reference.
use Rattle.std.specs.Prelude.{◌≡◌}
use Rattle.pon_admit.specs.declared.event.Event.{Event}
use Rattle.pon_admit.specs.declared.event.Event.TheVariants.{MakeMap}
use Rattle.pon_state.specs.declared.reply.Reply.{Reply}
use Rattle.pon_state.specs.declared.reply.Reply.TheVariants as reply
use Rattle.pon_state.specs.declared.entry.EntryRef.{EntryRef}
use Rattle.pon_state.specs.declared.entry.EntryRef.TheVariants.{Taken, Map}
use Rattle.pon_state.specs.Entry.{Entry}

-- the event gets such a reply: only `MakeMap` gets a map
abbrev pub GetsReply : Event → Reply → Type 0
GetsReply event reply.Taken = Unit {0}
GetsReply event (reply.Map made) = event ≡ MakeMap

-- the entry that a reference shows
abbrev pub entry_in : EntryRef → Entry
entry_in (Taken event) = record { event = event.now; reply = reply.Taken }
entry_in (Map made) = record { event = MakeMap; reply = reply.Map made.now }
