use Rattle.std.proofs.Common.{◌∙◌, ◌++◌, ◌∷◌, [], subst}
use Rattle.pon_record.specs.Bodies.{chapter_body}
use Rattle.pon_ring.specs.Rings.{received_chapters}
use Rattle.pon_ring.proofs.Passing.{same_out_more}
use Rattle.pon_recorder.specs.Recordings.{TakesChapters}
use Rattle.pon_recorder.proofs.Recordings.{received_more, takes_more}
use Rattle.pon_recorder.proofs.inlet.Inlet.take_all.Goals as goal

pub loop-chapter-preserved : goal.loop-chapter-preserved
loop-chapter-preserved g c =
    let far = c.loop-chapter.invariant in
    let first = c.args.self.now in
    let before = c.loop-chapter.self in
    let old = g.W.DevWrite.contents c.args.recorder.now.file.device in
    let mid = g.W.DevWrite.contents c.loop-chapter.recorder.file.device in
    let new = g.W.DevWrite.contents c.record.new.self.file.device in
    let rest = c.loop-chapter.recorder.file.left in
    let more = c.record.new.self.file.left in
    let popped = far.taken.0 in
    let taken = subst (λ port. TakesChapters mid rest new more before.dropped c.record.new.dropped (chapter_body port c.in-Some.chapter ∷ [])) far.port c.record.ensures.taken in
    record {
      ends = c.pop_beside.ensures.ends;
      sent = c.pop_beside.ensures.same.1 ∙ far.sent;
      port = far.port;
      sound = λ s. far.sound (c.record.ensures.all s).0;
      same = same_out_more first.ring before.ring c.pop_beside.new.self far.same c.pop_beside.ensures.ring;
      taken = (
        popped ++ c.in-Some.chapter ∷ [],
        received_more (received_chapters first.ring) (received_chapters before.ring) (received_chapters c.pop_beside.new.self) popped c.in-Some.chapter far.taken.1 c.in-Some.ensures.popped,
        takes_more first.port old c.args.recorder.now.file.left mid rest new more first.dropped before.dropped c.record.new.dropped popped c.in-Some.chapter far.taken.2 taken,
      );
    }
