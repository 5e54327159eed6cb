use Rattle.std.proofs.Common.{◌≡◌, true, false, rules, arith}
use Rattle.pon_look.proofs.ListedRows.{differ_at}
use Rattle.pon_look.proofs.tally.lists_rows.Goals as goal

pub returns-then-get-id : goal.returns-then-get-id
returns-then-get-id c = (
  λ t. absurd (let w : false ≡ true = t in cc),
  λ e. absurd (differ_at c.args.rows.now c.args.structures.now c.loop-place.place c.index-rows-place.result c.index-structures-place.result (omega arith) (omega arith) c.index-rows-place.is c.index-structures-place.is (search rules) e),
)
