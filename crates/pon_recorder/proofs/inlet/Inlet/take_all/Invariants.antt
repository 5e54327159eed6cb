use Rattle.std.proofs.Common.{◌≡◌, ◌-◌, ◌++◌, List, length}
use Rattle.std.specs.Prelude.{map}
use Rattle.pon_history.specs.Chapters.{Chapter}
use Rattle.pon_record.specs.Bodies.{chapter_body}
use Rattle.pon_ring.specs.Rings.{AreEnds, SameOut, received_chapters, sent_chapters}
use Rattle.pon_recorder.specs.Recordings.{TakesChapters}
use Rattle.pon_recorder.specs.Whole.{StaysSound}
use Rattle.pon_recorder.proofs.inlet.Inlet.take_all.Given as goal

-- the chapters popped so far are taken
abbrev pub invariant-loop-chapter : goal.invariant-loop-chapter
invariant-loop-chapter g l = record {
  ends : AreEnds l.ring l.self.ring;
  sent : sent_chapters l.ring ≡ sent_chapters l.initial.ring;
  port : l.self.port ≡ l.initial.self.port;
  sound : StaysSound l.initial.recorder l.recorder;
  same : SameOut l.initial.self.ring l.self.ring;
  taken : (popped : List Chapter) × (received_chapters l.self.ring ≡ received_chapters l.initial.self.ring ++ popped)
      × TakesChapters (g.W.DevWrite.contents l.initial.recorder.file.device) l.initial.recorder.file.left (g.W.DevWrite.contents l.recorder.file.device) l.recorder.file.left
      l.initial.self.dropped l.self.dropped (map (chapter_body l.initial.self.port) popped);
}

-- the chapters that are still in the ring
abbrev pub decreases-loop-chapter : goal.decreases-loop-chapter
decreases-loop-chapter g l = length (sent_chapters l.ring) - length (received_chapters l.self.ring)
