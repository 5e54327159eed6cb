use Rattle.std.proofs.Common.{◌∙◌, ◌+◌, ◌++◌, ◌∷◌, [], ap, append_assoc, map, refl, rules, sym}
use Rattle.std.proofs.lemmas.List.{length_push}
use Rattle.pon_recorder.proofs.Whole.{records_next, records_no_ports}
use Rattle.pon_recorder.proofs.recording_thread.take_all_kept.Goals as goal

pub loop-port-init : goal.loop-port-init
loop-port-init g c = record {
  all = search rules;
  place = refl;
  kept = records_no_ports (map (λ i. i.port) c.args.inlets.now) c.args.recorder.now (g.W.DevWrite.contents c.args.recorder.now.file.device);
}

pub loop-port-preserved : goal.loop-port-preserved
loop-port-preserved g c =
    let far = c.loop-port.invariant in
    let yielded = c.loop-port.yielded in
    let port = c.in-Some.port in
    record {
      all = append_assoc yielded (port ∷ []) c.next.new.self.rest.items ∙ ap (λ l. yielded ++ l) (sym c.in-Some.ensures.steps.0) ∙ far.all;
      place = ap (λ n. n + 1) far.place ∙ sym (length_push yielded port);
      kept = records_next (map (λ i. i.port) c.args.inlets.now) c.loop-port.place c.args.recorder.now c.loop-port.recorder c.take_kept_at.new.recorder
          (g.W.DevWrite.contents c.args.recorder.now.file.device) (g.W.DevWrite.contents c.loop-port.recorder.file.device) (g.W.DevWrite.contents c.take_kept_at.new.recorder.file.device)
          yielded port far.place far.kept c.take_kept_at.ensures.kept;
    }
