use Rattle.std.proofs.Common.{◌≡◌, ◌↔◌, ◌∙◌, List, [], subst, sym}
use Rattle.pon_admit.specs.Roster.{IsDistinct}
use Rattle.pon_resume.specs.Changes.{HasRows, changes_between}
use Rattle.pon_resume.specs.declared.changes.Change.{Change}
use Rattle.pon_resume.proofs.NoChange.{no_change, ok_then}
use Rattle.pon_resume.proofs.changes.changes_to.Goals as goal

pub returns-clause-none : goal.returns-clause-none
returns-clause-none c =
    let wanted = c.args.settings.now.rows in
    let rows = c.args.state.now.roster in
    let apart : IsDistinct rows = subst IsDistinct c.roster.ensures.rows c.rows-2.ensures.admitted.apart in
    let here = c.rows-2.ensures.value ∙ c.roster.ensures.rows in
    ok_then c.changes_between.result
    (λ changes e. subst (λ (l : List Change). (l ≡ []) ↔ HasRows wanted rows) (sym (e ∙ (λ j. changes_between (c.rows.ensures j) (here j)))) (no_change wanted rows apart))
    c.changes_between.ensures
