use Rattle.std.proofs.Common.{◌≡◌, List, [], ℕ, inr, refl, rules}
use Rattle.pon_record.specs.Bodies.{chapter_body}
use Rattle.pon_record.specs.Recorders.{Grows}
use Rattle.pon_record.proofs.RecordedBytes.{grows}
use Rattle.pon_recorder.proofs.Recordings.{rest_written}
use Rattle.pon_recorder.proofs.recorder.Recorder.append.Goals as goal

pub returns-then-is_ok-clause-recorded : goal.returns-then-is_ok-clause-recorded
returns-then-is_ok-clause-recorded g c e =
    let none : c.args.self.now.file.left ≡ [] = search rules in
    grows (g.W.DevWrite.contents c.args.self.now.file.device) (g.W.DevWrite.contents c.write_next.new.self.device) c.args.self.now.file.left c.write_next.new.self.left
    _ (chapter_body c.args.port c.args.chapter.now) none c.in-Ok.ensures c.write_next.ensures.sent

pub returns-clause-recorded : goal.returns-clause-recorded
returns-clause-recorded g c e =
    let old = g.W.DevWrite.contents c.args.self.now.file.device in
    let mid = g.W.DevWrite.contents c.write_next.new.self.device in
    let b = chapter_body c.args.port c.args.chapter.now in
    let none : c.args.self.now.file.left ≡ [] = search rules in
    let more : Grows old c.args.self.now.file.left mid c.write_next.new.self.left b = grows old mid c.args.self.now.file.left c.write_next.new.self.left _ b none c.in-Ok.ensures c.write_next.ensures.sent in
    rest_written old c.args.self.now.file.left mid c.write_next.new.self.left (g.W.DevWrite.contents c.write_rest.new.file.device) c.write_rest.new.file.left b more c.write_rest.ensures.same

pub returns-then-not-write_rest-clause-dropped : goal.returns-then-not-write_rest-clause-dropped
returns-then-not-write_rest-clause-dropped g c e =
    let old = g.W.DevWrite.contents c.args.self.now.file.device in
    let mid = g.W.DevWrite.contents c.write_next.new.self.device in
    let b = chapter_body c.args.port c.args.chapter.now in
    let none : c.args.self.now.file.left ≡ [] = search rules in
    let more : Grows old c.args.self.now.file.left mid c.write_next.new.self.left b = grows old mid c.args.self.now.file.left c.write_next.new.self.left _ b none c.in-Ok.ensures c.write_next.ensures.sent in (
    inr (refl, rest_written old c.args.self.now.file.left mid c.write_next.new.self.left (g.W.DevWrite.contents c.write_rest.new.file.device) c.write_rest.new.file.left b more c.write_rest.ensures.same)
    )
