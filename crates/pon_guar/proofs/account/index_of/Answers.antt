use Rattle.std.proofs.Common.{rules}
use Rattle.pon_guar.proofs.Accounts.{absent_here, absent_past, stands_here}
use Rattle.pon_guar.proofs.account.index_of.Goals as goal
use Rattle.pon_guar.proofs.account.index_of.Goals.{else-place-accounts-via-then-place-accounts+else-eq, else-place-accounts-via-else-place-accounts}

pub returns-then-eq : goal.returns-then-eq
returns-then-eq c = stands_here c.args.alloc_id c.args.accounts.now c.requires c.place_of-place.result c.index-accounts-place.result (search rules) (search rules)

pub returns-else-place-accounts : goal.returns-else-place-accounts
returns-else-place-accounts c = elim c.else-place-accounts.branch [
  | else-place-accounts-via-then-place-accounts+else-eq w ↦
      absent_here c.args.alloc_id c.args.accounts.now c.requires c.place_of-place.result w.index-accounts-place.result (search rules) c.place_of-place.ensures.others (search rules)
  | else-place-accounts-via-else-place-accounts w ↦
      absent_past c.args.alloc_id c.args.accounts.now c.requires c.place_of-place.result (search rules) c.place_of-place.ensures.others
]
