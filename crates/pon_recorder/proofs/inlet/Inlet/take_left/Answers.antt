use Rattle.std.proofs.Common.{List, subst, sym}
use Rattle.std.specs.Prelude.{map, option_to_list}
use Rattle.std.proofs.lemmas.List.{map-append}
use Rattle.pon_record.specs.Chapters.{Body}
use Rattle.pon_record.specs.Bodies.{chapter_body}
use Rattle.pon_recorder.specs.Recordings.{TakesChapters}
use Rattle.pon_recorder.proofs.Recordings.{takes_both}
use Rattle.pon_recorder.proofs.inlet.Inlet.take_left.Goals as goal

pub returns-clause-taken : goal.returns-clause-taken
returns-clause-taken g c =
    let port = c.args.self.now.port in
    let old = g.W.DevWrite.contents c.args.recorder.now.file.device in
    let mid = g.W.DevWrite.contents c.take_all.new.recorder.file.device in
    let new = g.W.DevWrite.contents c.record_any-self.new.recorder.file.device in
    let popped = c.take_all.ensures.taken.0 in
    let pending = option_to_list c.args.rest.pending in
    let all = takes_both old c.args.recorder.now.file.left mid c.take_all.new.recorder.file.left new c.record_any-self.new.recorder.file.left
    c.args.self.now.dropped c.take_all.new.self.dropped c.record_any-self.new.dropped (map (chapter_body port) popped) (map (chapter_body port) pending) c.take_all.ensures.taken.2 c.record_any-self.ensures.taken in
    (popped, c.record_any-self.new.dropped, c.take_all.ensures.taken.1, subst (λ (bs : List Body). TakesChapters old c.args.recorder.now.file.left new c.record_any-self.new.recorder.file.left c.args.self.now.dropped c.record_any-self.new.dropped bs) (sym (map-append (chapter_body port) popped pending)) all, c.saturating_add-self.ensures)
