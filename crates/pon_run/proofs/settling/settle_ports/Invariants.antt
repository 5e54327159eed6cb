use Rattle.std.proofs.Common.{take}
use Rattle.pon_run.specs.Settlements.{AreOf}
use Rattle.pon_run.proofs.settling.settle_ports.Given as goal

-- the settlements so far
abbrev pub invariant-loop-account : goal.invariant-loop-account
invariant-loop-account l = AreOf l.closed (take l.account-index l.accounts) l.all.items
