use Rattle.std.proofs.Common.{◌≡◌, ◌++◌, drop, map, take}
use Rattle.pon_guar.specs.Loads.{afresh}
use Rattle.pon_guar.proofs.counting.forget.Given as goal

-- the accounts so far are without a report, the others are unchanged
abbrev pub invariant-loop-account : goal.invariant-loop-account
invariant-loop-account l = l.accounts ≡ map (afresh l.frame) (take l.account-index l.initial.accounts) ++ drop l.account-index l.initial.accounts
