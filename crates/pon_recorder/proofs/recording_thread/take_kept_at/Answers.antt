use Rattle.std.proofs.Common.{length, map, refl, subst}
use Rattle.std.specs.Prelude.{Some, None}
use Rattle.std.proofs.lemmas.Option.{slice_get_past, slice_get_read}
use Rattle.pon_history.specs.Chapters.{Chapter}
use Rattle.pon_recorder.specs.Whole.{RecordsAll, kept_at}
use Rattle.pon_recorder.proofs.Whole.{records_at, records_none}
use Rattle.pon_recorder.proofs.recording_thread.take_kept_at.Goals as goal

pub returns : goal.returns
returns g c =
    let inlets = c.args.inlets.now in
    let place = c.args.place in
    let inlet = c.in-Some.inlet.now in
    let found = c.in-Some.ensures.lookup in
    let old = g.W.DevWrite.contents c.args.recorder.now.file.device in
    let new = g.W.DevWrite.contents c.take_kept-count.new.recorder.file.device in
    record {
      kept = subst (λ (k : Chapter). RecordsAll c.args.recorder.now c.take_kept-count.new.recorder old new (kept_at (map (λ i. i.port) inlets) place k)) c.into_chapter.ensures
          (records_at (λ i. i.port) inlets place (Some inlet) c.args.recorder.now c.take_kept-count.new.recorder old new c.into_chapter.result
          (slice_get_read inlets (length inlets) place inlet refl found.3.0 found.1) c.take_kept-count.ensures.all);
    }

pub returns-in_default : goal.returns-in_default
returns-in_default g c =
    record {
      kept = records_at (λ i. i.port) c.args.inlets.now c.args.place None c.args.recorder.now c.args.recorder.now
          (g.W.DevWrite.contents c.args.recorder.now.file.device) (g.W.DevWrite.contents c.args.recorder.now.file.device) c.args.port (slice_get_past c.args.inlets.now c.args.place c.in_default.ensures.lookup.3)
          (records_none c.args.recorder.now (g.W.DevWrite.contents c.args.recorder.now.file.device));
    }
