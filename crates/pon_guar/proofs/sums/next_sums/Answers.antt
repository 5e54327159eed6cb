use Rattle.std.proofs.Common.{◌≡◌, ◌≤◌, ◌∙◌, ◌+◌, ◌++◌, ◌∷◌, [], ap, rules, subst, sym, take}
use Rattle.std.specs.Prelude.{All}
use Rattle.std.proofs.lemmas.List.{take_all, take_more}
use Rattle.std.proofs.lemmas.List.Elements.{All-append, All-cons, All-nil}
use Rattle.pon_units.specs.declared.limits.TheConstants.{FRAME_WORDS}
use Rattle.pon_guar.specs.Sums.{or_zero, sum_now, sums_beside}
use Rattle.pon_guar.proofs.RunningSums.{beside_more}
use Rattle.pon_guar.proofs.sums.next_sums.Goals as goal
use Rattle.pon_guar.proofs.sums.next_sums.Goals.{in-Some, in-None}

pub loop-granted-preserved : goal.loop-granted-preserved
loop-granted-preserved c =
    let done = take c.loop-granted.granted-index c.args.grants.now in
    let granted = c.granted-item.result in
    let more : take (c.loop-granted.granted-index + 1) c.args.grants.now ≡ done ++ granted ∷ []
    = take_more c.args.grants.now c.loop-granted.granted-index granted (search rules) ∙ ap (λ g. done ++ g ∷ []) (sym c.granted-item.is) in
    let sum : c.match-sum_from.sum ≡ or_zero (sum_now granted.onu granted.alloc_id c.args.maps.now c.args.sums.now)
    = elim c.match-sum_from.branch [
      | in-Some w ↦ w.sum-is ∙ sym (ap or_zero (sym c.sum_from.ensures ∙ w.in-Some.is))
      | in-None w ↦ w.sum-is ∙ sym (ap or_zero (sym c.sum_from.ensures ∙ w.in-None.is))
    ] in record {
      sums = c.push_reserved.ensures.items ∙ beside_more c.args.maps.now c.args.sums.now done (take (c.loop-granted.granted-index + 1) c.args.grants.now) granted c.match-sum_from.sum c.loop-granted.before.items sum c.loop-granted.invariant.sums more;
      small = subst (All (λ g. g.words ≤ FRAME_WORDS)) (sym more)
          (All-append (λ g. g.words ≤ FRAME_WORDS) done (granted ∷ []) c.loop-granted.invariant.small (All-cons (λ g. g.words ≤ FRAME_WORDS) granted [] (search rules) (All-nil (λ g. g.words ≤ FRAME_WORDS))));
      count = search rules;
      room = search rules;
    }

pub returns-clause-sums : goal.returns-clause-sums
returns-clause-sums c = c.loop-granted.invariant.sums ∙ ap (sums_beside c.args.maps.now c.args.sums.now) (take_all c.loop-granted.granted-index c.args.grants.now c.loop-granted-test.false)

pub returns-clause-small : goal.returns-clause-small
returns-clause-small c = subst (All (λ g. g.words ≤ FRAME_WORDS)) (take_all c.loop-granted.granted-index c.args.grants.now c.loop-granted-test.false) c.loop-granted.invariant.small
