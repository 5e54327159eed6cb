-- A ring of chapters as contracts see it.
use Rattle.std.specs.Prelude.{List}
use Rattle.rtrb.specs.Ring.{IsFinishedOf, IsPair, SameConsumer, SameProducer, all_sent, known_items, received, sent}
use Rattle.rtrb.specs.Ring.{Finishes as FinishesProducer}
use Rattle.pon_history.specs.Chapters.{Chapter}
use Rattle.pon_ring.specs.declared.ring_in.RingIn.{RingIn}
use Rattle.pon_ring.specs.declared.ring_in.RingEnd.{RingEnd}
use Rattle.pon_ring.specs.declared.ring_out.RingOut.{RingOut}

-- the chapters that were pushed so far, oldest first
abbrev pub sent_chapters : RingIn → List Chapter
sent_chapters r = sent r.producer

-- the chapters that were popped so far, oldest first
abbrev pub received_chapters : RingOut → List Chapter
received_chapters r = received r.consumer

-- the chapters that the recorder has seen in the ring
abbrev pub known_chapters : RingOut → List Chapter
known_chapters r = known_items r.consumer

-- all chapters that were ever pushed
abbrev pub all_chapters : RingEnd → List Chapter
all_chapters e = all_sent e.finished

-- the two ends of one ring
abbrev pub AreEnds : RingIn → RingOut → Type 0
AreEnds i o = IsPair i.producer o.consumer

abbrev pub SameIn : RingIn → RingIn → Type 0
SameIn a b = SameProducer a.producer b.producer

abbrev pub SameOut : RingOut → RingOut → Type 0
SameOut a b = SameConsumer a.consumer b.consumer

abbrev pub Finishes : RingIn → RingEnd → Type 0
Finishes i e = FinishesProducer i.producer e.finished

abbrev pub IsEndOf : RingEnd → RingOut → Type 0
IsEndOf e o = IsFinishedOf e.finished o.consumer
