use Rattle.std.proofs.Common.{take}
use Rattle.std.specs.Prelude.{All}
use Rattle.pon_audit.specs.Chains.{HasAccount}
use Rattle.pon_audit.proofs.chain.has_accounts.Given as goal

-- the book has the accounts of the rows so far
abbrev pub invariant-loop-raw : goal.invariant-loop-raw
invariant-loop-raw l = All (HasAccount l.loads.accounts) (take l.raw-index l.raws)
