use Rattle.std.proofs.Common.{ap, arith, get_or}
use Rattle.std.proofs.lemmas.List.Edits.{map_over_more}
use Rattle.pon_guar.specs.Loads.{afresh}
use Rattle.pon_guar.proofs.counting.forget.Goals as goal

pub loop-account-preserved : goal.loop-account-preserved
loop-account-preserved c =
    map_over_more (afresh c.args.frame) c.args.accounts.now c.loop-account.accounts c.loop-account.account-index (get_or c.loop-account.accounts c.loop-account.account-index c.account-item.result) (omega arith) c.loop-account.invariant
    (ap (λ d. get_or c.loop-account.accounts c.loop-account.account-index d) c.account-item.is)
