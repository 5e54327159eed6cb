use Rattle.pon_guar.proofs.Books.{removed_rise}
use Rattle.pon_guar.proofs.loads.Loads.removed.Goals as goal

pub invariant_of-self : goal.invariant_of-self
invariant_of-self c = rw c.remove_account.ensures (removed_rise c.args.alloc_id _ c.self.invariant)
