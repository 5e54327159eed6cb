use Rattle.std.proofs.Common.{rules}
use Rattle.pon_guar.proofs.Books.{admitted_rise}
use Rattle.pon_guar.proofs.loads.Loads.admitted.Goals as goal

pub invariant_of-self-2 : goal.invariant_of-self-2
invariant_of-self-2 c = rw (c.add_account.ensures, c.reserve.ensures.items) (admitted_rise _ _ c.self.invariant (search rules))
