use Rattle.std.proofs.Common.{◌∙◌, ap, rules, sym}
use Rattle.pon_guar.specs.Sums.{is_to}
use Rattle.pon_guar.proofs.RunningSums.{stands_at}
use Rattle.pon_guar.proofs.sums.place_of_grant.Goals as goal

pub returns-then-is_to : goal.returns-then-is_to
returns-then-is_to c =
    stands_at c.args.onu c.args.alloc_id c.args.grants.now c.requires c.args.hint c.index-grants-hint.result (search rules)
    (ap (is_to c.args.onu c.args.alloc_id) (sym c.index-grants-hint.is) ∙ sym c.is_to.ensures ∙ c.if-is_to.true)
