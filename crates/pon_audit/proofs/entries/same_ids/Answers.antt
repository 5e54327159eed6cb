use Rattle.std.proofs.Common.{◌≡◌, true, false, rules, arith}
use Rattle.pon_audit.proofs.Maps.{not_same}
use Rattle.pon_audit.proofs.entries.same_ids.Goals as goal

pub returns-then-id : goal.returns-then-id
returns-then-id c = (
  λ t. absurd (let w : false ≡ true = t in cc),
  λ e. absurd (not_same (λ a. a.id) c.args.rows.now c.args.others.now c.loop-i.i c.index-rows-i.result c.index-others-i.result (omega arith) (omega arith) c.index-rows-i.is c.index-others-i.is (search rules) e),
)
