use Rattle.std.proofs.Common.{◌∙◌}
use Rattle.pon_sure.specs.Sure.{sure_of}
use Rattle.pon_manage.proofs.sure.sure_in.Goals as goal

-- the roster of a state has its rule, its gap and its rows
pub returns : goal.returns
returns c =
    c.sure_of.ensures
    ∙ (λ i. sure_of (record { rule = c.roster.ensures.rule i; gap = c.roster.ensures.gap i; rows = c.roster.ensures.rows i }) c.args.alloc_id)
