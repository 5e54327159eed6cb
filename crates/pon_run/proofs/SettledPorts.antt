-- The settlements of accounts, one after another.
use Rattle.std.proofs.Common.{List, [], ◌∷◌, ◌++◌, refl}
use Rattle.pon_desk.specs.Counts.{ClosedPorts}
use Rattle.pon_run.specs.Settlements.{AreOf, IsOf}
use Rattle.pon_run.specs.declared.settling.Account.{Account}
use Rattle.pon_run.specs.declared.settling.Settlement.{Settlement}

-- one more settlement
pub one_more : (closed : ClosedPorts) (accounts : List Account) (ss : List Settlement) (a : Account) (s : Settlement) → AreOf closed accounts ss → IsOf closed a s → AreOf closed (accounts ++ a ∷ []) (ss ++ s ∷ [])
one_more closed [] [] a s are is = (is, refl)
one_more closed [] (t ∷ ts) a s are is = absurd (cc are)
one_more closed (b ∷ bs) [] a s are is = absurd are
one_more closed (b ∷ bs) (t ∷ ts) a s are is = (are.0, one_more closed bs ts a s are.1 is)
