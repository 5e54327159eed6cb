use Rattle.std.proofs.Common.{◌≡◌, map, take}
use Rattle.pon_audit.proofs.entries.same_grants.Given as goal

-- the fields so far are equal
abbrev pub invariant-loop-i : goal.invariant-loop-i
invariant-loop-i l = map (λ a. a.grant) (take l.i l.rows) ≡ map (λ a. a.grant) (take l.i l.others)
