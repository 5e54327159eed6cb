use Rattle.std.proofs.Common.{refl}
use Rattle.pon_record.specs.Bodies.{chapter_body}
use Rattle.pon_recorder.proofs.Recordings.{drops_one, takes_one}
use Rattle.pon_recorder.proofs.recorder.Recorder.record.Goals as goal

pub returns-then-not-append-clause-taken : goal.returns-then-not-append-clause-taken
returns-then-not-append-clause-taken g c =
    let old = g.W.DevWrite.contents c.args.self.now.file.device in
    let new = g.W.DevWrite.contents c.append.new.self.file.device in
    drops_one old c.args.self.now.file.left new c.append.new.self.file.left c.append.new.self.failed c.args.dropped.now c.saturating_add.result (chapter_body c.args.port c.args.chapter.now) (c.if-not-append.ensures.dropped refl) c.saturating_add.ensures

pub returns-clause-taken : goal.returns-clause-taken
returns-clause-taken g c =
    let old = g.W.DevWrite.contents c.args.self.now.file.device in
    let new = g.W.DevWrite.contents c.append.new.self.file.device in
    takes_one old c.args.self.now.file.left new c.append.new.self.file.left c.args.dropped.now (chapter_body c.args.port c.args.chapter.now) (c.if-not-append.ensures.recorded refl)
