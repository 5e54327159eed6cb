use Rattle.std.proofs.Common.{rules}
use Rattle.pon_guar.proofs.Accounts.{stands_here}
use Rattle.pon_guar.proofs.account.index_near.Goals as goal

pub returns-then-eq : goal.returns-then-eq
returns-then-eq c = stands_here c.args.alloc_id c.args.accounts.now c.requires c.args.hint c.index-accounts-hint.result (search rules) (search rules)
