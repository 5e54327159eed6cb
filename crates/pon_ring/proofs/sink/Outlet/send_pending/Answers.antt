use Rattle.std.proofs.Common.{◌≡◌, ◌++◌, ◌∷◌, [], ap, rules, sym, ◌∙◌, subst}
use Rattle.std.specs.Prelude.{Some, option_to_list}
use Rattle.pon_ring.specs.Numbers.{AreBelow, ComesAfter, next_number}
use Rattle.pon_ring.specs.Rings.{sent_chapters}
use Rattle.pon_ring.proofs.sink.Outlet.send_pending.Goals as goal

pub push-requires : goal.push-requires
push-requires c =
    let there : c.args.self.now.pending ≡ Some c.in-Some.chapter = search rules in
    c.args.self.now.waits c.in-Some.chapter there

pub invariant_of-self-in-Err : goal.invariant_of-self-in-Err
invariant_of-self-in-Err c =
    let old = c.args.self.now in
    let there : old.pending ≡ Some c.in-Some.chapter = search rules in
    let back : old.pending ≡ Some c.in-Err.back = there ∙ ap Some (sym c.in-Err.ensures.full.0) in
    let same : sent_chapters c.push.new.self ≡ sent_chapters old.ring = c.in-Err.ensures.full.1 in
    record {
      waits = λ x e. subst (λ s. ComesAfter s x) (sym same) (old.waits x (back ∙ e));
      up_to = subst (λ s. AreBelow (next_number old.newest) (s ++ c.in-Err.back ∷ [])) (sym same)
          (subst (λ o. AreBelow (next_number old.newest) (sent_chapters old.ring ++ option_to_list o)) back old.up_to);
    }
