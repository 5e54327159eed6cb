use Rattle.std.proofs.Common.{sym, ◌∙◌}
use Rattle.pon_resume.specs.Changes.{removal_for}
use Rattle.pon_resume.proofs.Chosen.{none_chosen, one_chosen}
use Rattle.pon_resume.proofs.changes.add_removals.Goals.{in-Some+in_ok-push, in_default}
use Rattle.pon_resume.proofs.changes.add_removals.Goals as goal

pub loop-row-preserved : goal.loop-row-preserved
loop-row-preserved c =
    let h = removal_for c.args.wanted.now in
    let i = c.loop-row.row-index in
    elim c.match-removal_for.branch [
      | in-Some+in_ok-push w ↦ (λ j. (w.changes-is j).items) ∙ w.in_ok-push.ensures.items
          ∙ one_chosen h c.args.rows.now c.args.changes.now.items _ i c.row-item.result c.loop-row-test.true c.row-item.is _ (sym c.removal_for.ensures ∙ w.in-Some.is) c.loop-row.invariant
      | in_default w ↦ (λ j. (w.changes-is j).items)
          ∙ none_chosen h c.args.rows.now c.args.changes.now.items _ i c.row-item.result c.loop-row-test.true c.row-item.is (sym c.removal_for.ensures ∙ w.in_default.is) c.loop-row.invariant
    ]
