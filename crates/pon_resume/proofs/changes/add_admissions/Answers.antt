use Rattle.std.proofs.Common.{sym, ◌∙◌}
use Rattle.pon_resume.specs.Changes.{admission_for}
use Rattle.pon_resume.proofs.Chosen.{none_chosen, one_chosen}
use Rattle.pon_resume.proofs.changes.add_admissions.Goals.{in-Some+in_ok-push, in_default}
use Rattle.pon_resume.proofs.changes.add_admissions.Goals as goal

pub loop-settings-preserved : goal.loop-settings-preserved
loop-settings-preserved c =
    let h = admission_for c.args.rows.now in
    let i = c.loop-settings.settings-index in
    elim c.match-admission_for.branch [
      | in-Some+in_ok-push w ↦ (λ j. (w.changes-is j).items) ∙ w.in_ok-push.ensures.items
          ∙ one_chosen h c.args.wanted.now c.args.changes.now.items _ i c.settings-item.result c.loop-settings-test.true c.settings-item.is _ (sym c.admission_for.ensures ∙ w.in-Some.is) c.loop-settings.invariant
      | in_default w ↦ (λ j. (w.changes-is j).items)
          ∙ none_chosen h c.args.wanted.now c.args.changes.now.items _ i c.settings-item.result c.loop-settings-test.true c.settings-item.is (sym c.admission_for.ensures ∙ w.in_default.is) c.loop-settings.invariant
    ]
