use Rattle.std.proofs.Common.{rules, subst, IfOk, ◌≡◌}
use Rattle.pon_why.specs.Lasts.{chapter_with}
use Rattle.pon_why.specs.declared.last.LastWhy.{LastWhy}
use Rattle.pon_why.proofs.Retaking.{certified_here, none_here, why_here}
use Rattle.pon_why.proofs.last.explain_last.Goals as goal

pub explain_for-requires-clause-certified : goal.explain_for-requires-clause-certified
explain_for-requires-clause-certified c =
    let kept = c.in_ok-state-in-Map.ensures in
    certified_here (chapter_with kept.0 c.args.opening.now c.args.entries.now) c.in-Some.place c.in_ok-state-in-Map.state c.index-entries-place.result c.in-Map.made.now kept.1 c.in-Some.ensures.within c.index-entries-place.is kept.2 (search rules)

pub returns-in_ok-state-in-Map : goal.returns-in_ok-state-in-Map
returns-in_ok-state-in-Map c =
    let kept = c.in_ok-state-in-Map.ensures in
    subst (λ why. IfOk c.explain_for.result (λ (x : LastWhy). x ≡ why))
    (why_here c.args.opening.now c.in_ok-state-in-Map.state c.args.entries.now c.args.alloc_id c.in-Some.place c.index-entries-place.result c.in-Map.made.now (search rules) kept.2.replayed c.in-Some.ensures.within c.index-entries-place.is (search rules))
    c.explain_for.ensures

pub returns-in-Taken : goal.returns-in-Taken
returns-in-Taken c =
    none_here c.args.opening.now c.args.entries.now c.args.alloc_id c.in-Some.place c.index-entries-place.result c.in-Taken.field-0.now (search rules) c.in-Some.ensures.within c.index-entries-place.is (search rules)
