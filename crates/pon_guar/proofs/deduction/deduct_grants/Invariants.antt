use Rattle.std.proofs.Common.{◌≡◌, map, take}
use Rattle.pon_guar.specs.Loads.{lessened}
use Rattle.pon_guar.proofs.deduction.deduct_grants.Given as goal

-- the accounts are reduced by the grants so far
abbrev pub invariant-loop-granted : goal.invariant-loop-granted
invariant-loop-granted l = l.accounts ≡ map (lessened (take l.granted-index l.grants)) l.initial.accounts
