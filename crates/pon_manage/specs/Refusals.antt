-- The refusals of lines: what the loop over lines hands out beside the reply.
use Rattle.std.specs.Prelude.{◌≡◌, List, Option, Some, None, option_map, slice_get}
use Rattle.pon_descr.specs.declared.refusal.Refusal.TheVariants.{NoSuchAlloc}
use Rattle.pon_admit.specs.declared.event.Event.{Event}
use Rattle.pon_history.specs.Chapters.{Chapter, present_state}
use Rattle.pon_history.specs.Last.{LastMap, last_map}
use Rattle.pon_history.specs.Taking.{refusal_of}
use Rattle.pon_line.specs.Places.{no_command, of_line}
use Rattle.pon_line.specs.declared.fault.LineFault.TheVariants.{NoMap, Port}
use Rattle.pon_line.specs.declared.fault.LineRefusal.{LineRefusal}
use Rattle.pon_line.specs.declared.reading.Reading.{Reading}
use Rattle.pon_line.specs.declared.reading.Reading.TheVariants.{Nothing, Refused, Asks, AsksCert, AsksState, AsksRows, AsksHelp, AsksStop, AsksWhy, AsksSure}
use Rattle.pon_sure.specs.declared.sure.Sure.{Sure}
use Rattle.pon_why.specs.Lasts.{why_of}
use Rattle.pon_why.specs.declared.last.LastWhy.{LastWhy}
use Rattle.pon_why.specs.declared.last.LastWhy.TheVariants as why
use Rattle.pon_manage.specs.Recorded.{MakesRoomFor}
use Rattle.pon_manage.specs.Sures.{sure_in}

-- an event is refused for its first refusal
abbrev pub event_refusal : Option Chapter → Event → Option LineRefusal
event_refusal None event = None
event_refusal (Some c) event = option_map (λ refusal. of_line (Port refusal)) (refusal_of c event)

-- a certificate is refused without a map
abbrev pub cert_refusal : Option LastMap → Option LineRefusal
cert_refusal None = Some (of_line NoMap)
cert_refusal (Some last) = None

-- an explanation is refused without a map, or if the Alloc-ID was not admitted at the last one
abbrev pub why_refusal : LastWhy → Option LineRefusal
why_refusal why.NoMap = Some (of_line NoMap)
why_refusal why.NoSuchAlloc = Some (of_line (Port NoSuchAlloc))
why_refusal (why.Explained x) = None

-- what is sure is refused if the Alloc-ID is not admitted
abbrev pub sure_refusal : Option Sure → Option LineRefusal
sure_refusal None = Some (of_line (Port NoSuchAlloc))
sure_refusal (Some sure) = None

-- the refusal at an existing port
abbrev pub at_port : Option Chapter → (Chapter → Option LineRefusal) → Option LineRefusal
at_port None refusal = None
at_port (Some c) refusal = refusal c

-- the refusal of a reading at these ports, if it is refused
abbrev pub refusal_in : List Chapter → Reading → Option LineRefusal
refusal_in old Nothing = None
refusal_in old (Refused refusal) = Some refusal
refusal_in old (Asks port event) = event_refusal (slice_get old port) event
refusal_in old (AsksCert port) = at_port (slice_get old port) (λ c. cert_refusal (last_map c))
refusal_in old (AsksState port) = None
refusal_in old (AsksRows port) = None
refusal_in old (AsksHelp port) = None
refusal_in old (AsksStop port) = Some no_command
refusal_in old (AsksWhy port alloc) = at_port (slice_get old port) (λ c. why_refusal (why_of c.opening c.entries alloc))
refusal_in old (AsksSure port alloc) = at_port (slice_get old port) (λ c. sure_refusal (sure_in (present_state c) alloc))

-- the refusal of a reading at ports that have room for its event
abbrev pub IsRefusalInRoom : List Chapter → Reading → Option LineRefusal → Type 0
IsRefusalInRoom old reading told = (mid : List Chapter) × MakesRoomFor old reading mid × (told ≡ refusal_in mid reading)
