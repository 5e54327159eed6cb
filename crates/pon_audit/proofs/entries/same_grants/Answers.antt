use Rattle.std.proofs.Common.{◌≡◌, true, false, rules, arith}
use Rattle.pon_audit.proofs.Maps.{not_same}
use Rattle.pon_audit.proofs.entries.same_grants.Goals as goal

pub returns-then-grant : goal.returns-then-grant
returns-then-grant c = (
  λ t. absurd (let w : false ≡ true = t in cc),
  λ e. absurd (not_same (λ a. a.grant) c.args.rows.now c.args.others.now c.loop-i.i c.index-rows-i.result c.index-others-i.result (omega arith) (omega arith) c.index-rows-i.is c.index-others-i.is (search rules) e),
)
