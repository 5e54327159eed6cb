use Rattle.std.proofs.Common.{◌∙◌, ◌++◌, ◌∷◌, [], ap, map, rules, sym}
use Rattle.std.proofs.lemmas.Iterator.Adapters.{YieldsList-from_vec}
use Rattle.std.proofs.lemmas.Iterator.Consumers.{YieldsList-end}
use Rattle.std.proofs.lemmas.List.{map-append, map-id}
use Rattle.pon_look.specs.declared.summing.Part.{Part}
use Rattle.pon_look.proofs.summing.answers_of.Goals as goal

pub loop-part-preserved : goal.loop-part-preserved
loop-part-preserved c =
    c.in_ok-push.ensures.items ∙ ap (λ l. l ++ c.in-Some.part.judged ∷ []) c.loop-part.invariant ∙ sym (map-append (λ (p : Part). p.judged) c.loop-part.yielded (c.in-Some.part ∷ []))

pub returns : goal.returns
returns c =
    let all = YieldsList-end (YieldsList-from_vec {s = c.into_iter-part-iterator.result} c.args.parts.items (search rules) (search rules)) c.loop-part.yielded c.loop-part.part-iterator c.loop-part.yielded_by c.next.result c.next.new.self c.in-None.is c.next.ensures.steps in
    c.loop-part.invariant ∙ ap (map (λ (p : Part). p.judged)) (sym (map-id c.loop-part.yielded) ∙ all.0)
