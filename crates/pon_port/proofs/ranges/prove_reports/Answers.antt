use Rattle.std.proofs.Common.{◌≡◌, ◌∙◌, subst, take}
use Rattle.std.proofs.lemmas.List.{take_all}
use Rattle.pon_port.proofs.InRange.{AreRowsInRange, reports_by_rows}
use Rattle.pon_port.proofs.ranges.prove_reports.Goals as goal

pub returns : goal.returns
returns c =
    let rows = c.rows-row-items.result.now in
    let book = c.args.state.now.book in
    let whole : take c.loop-row.row-index rows ≡ c.args.state.now.roster
    = take_all c.loop-row.row-index rows c.loop-row-test.false ∙ c.rows-row-items.ensures.value ∙ c.roster.ensures.rows in
    reports_by_rows c.args.state.now.roster book c.requires.book (subst (AreRowsInRange book) whole c.loop-row.invariant)
