use Rattle.std.proofs.Common.{◌≡◌, ◌∷◌, [], rules, subst}
use Rattle.pon_record.specs.Chapters.{Body}
use Rattle.pon_record.specs.Bodies.{chapter_body}
use Rattle.pon_recorder.specs.Whole.{RecordsAll}
use Rattle.pon_recorder.proofs.Whole.{records_append}
use Rattle.pon_recorder.proofs.kept.append_port.Goals as goal

pub returns : goal.returns
returns g c =
    let old = g.W.DevWrite.contents c.args.recorder.now.file.device in
    let new = g.W.DevWrite.contents c.append-taken.new.self.file.device in
    let same : chapter_body c.at.result c.into_chapter-chapter.result ≡ chapter_body c.args.place c.args.port = search rules in
    subst (λ (b : Body). RecordsAll c.args.recorder.now c.append-taken.new.self old new (b ∷ [])) same
    (records_append c.args.recorder.now c.append-taken.new.self old new c.append-taken.result (chapter_body c.at.result c.into_chapter-chapter.result) c.append-taken.ensures.sound c.append-taken.ensures.recorded)
