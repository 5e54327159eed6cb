use Rattle.std.proofs.Common.{◌≡◌, ◌∙◌, ap, sym}
use Rattle.std.specs.Prelude.{◌==◌, Some, find, option_map}
use Rattle.pon_sure.specs.Sure.{sure_of_row}
use Rattle.pon_sure.proofs.sure.sure_of.Goals as goal

pub returns-in-Some : goal.returns-in-Some
returns-in-Some c =
    ap Some c.sure_of_row.ensures
    ∙ ap (option_map (sure_of_row c.args.roster.now)) (sym c.in-Some.is ∙ c.row_of.ensures ∙ ap (find (λ r. r.alloc_id == c.args.alloc_id)) c.rows.ensures.value)
