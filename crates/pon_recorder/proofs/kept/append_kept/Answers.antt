use Rattle.std.proofs.Common.{◌∙◌, List, ◌+◌, ◌++◌, ◌∷◌, [], ap, append_assoc, arith, length, refl, rules, subst, sym}
use Rattle.std.specs.List.{range_with_len}
use Rattle.std.proofs.lemmas.List.{length_push}
use Rattle.pon_record.specs.Chapters.{Body}
use Rattle.pon_recorder.specs.Whole.{RecordsAll}
use Rattle.pon_recorder.proofs.Whole.{kept_in_range, place_within, records_next, records_no_ports}
use Rattle.pon_recorder.proofs.kept.append_kept.Goals as goal

pub loop-port-init : goal.loop-port-init
loop-port-init g c = record {
  all = search rules;
  place = refl;
  kept = records_no_ports (range_with_len 0 (length c.args.ports.items)) c.args.recorder.now (g.W.DevWrite.contents c.args.recorder.now.file.device);
}

pub append_port-requires : goal.append_port-requires
append_port-requires g c =
    let far = c.loop-port.invariant in
    let within = place_within c.loop-port.yielded c.loop-port.port-iterator.rest.items c.args.ports.items c.next.new.self.rest.items c.in-Some.port far.all c.in-Some.ensures.steps.0 in
    omega (arith, within, far.place, c.requires, c.args.ports.ok.0)

pub loop-port-preserved : goal.loop-port-preserved
loop-port-preserved g c =
    let far = c.loop-port.invariant in
    let yielded = c.loop-port.yielded in
    let port = c.in-Some.port in
    let old = g.W.DevWrite.contents c.args.recorder.now.file.device in
    let mid = g.W.DevWrite.contents c.loop-port.recorder.file.device in
    let new = g.W.DevWrite.contents c.append_port.new.recorder.file.device in
    let within = place_within yielded c.loop-port.port-iterator.rest.items c.args.ports.items c.next.new.self.rest.items port far.all c.in-Some.ensures.steps.0 in
    let here = kept_in_range (length c.args.ports.items) c.loop-port.place port (omega (arith, within, far.place)) in
    record {
      all = append_assoc yielded (port ∷ []) c.next.new.self.rest.items ∙ ap (λ l. yielded ++ l) (sym c.in-Some.ensures.steps.0) ∙ far.all;
      place = ap (λ n. n + 1) far.place ∙ sym (length_push yielded port);
      kept = records_next (range_with_len 0 (length c.args.ports.items)) c.loop-port.place c.args.recorder.now c.loop-port.recorder c.append_port.new.recorder old mid new
          yielded port far.place far.kept
          (subst (λ (bodies : List Body). RecordsAll c.loop-port.recorder c.append_port.new.recorder mid new bodies) (sym here) c.append_port.ensures);
    }
