use Rattle.std.proofs.Common.{◌∙◌, sym, rules}
use Rattle.std.proofs.lemmas.Bool.{eqb-false, not-true}
use Rattle.pon_guar.proofs.Series.{begin_after, begin_first}
use Rattle.pon_guar.proofs.map.begins_at.Goals as goal

pub returns-then-index-eq0 : goal.returns-then-index-eq0
returns-then-index-eq0 c _ = begin_first c.args.onu c.args.grants.now c.requires c.args.index c.index-grants-index.result (search rules) (search rules) (search rules)

pub returns-else-index-eq0 : goal.returns-else-index-eq0
returns-else-index-eq0 c other = begin_after c.args.onu c.args.grants.now c.requires c.args.index c.index-grants-index.result (search rules) (search rules) (search rules) c.index-grants-index-else-index-eq0.result
    (eqb-false _ _ (not-true _ (sym c.ne-else-index-eq0.ensures ∙ other)))
