use Rattle.std.proofs.Common.{◌≡◌, map, take}
use Rattle.pon_audit.proofs.chain.are_same_carries.Given as goal

-- the carries so far are the same
abbrev pub invariant-loop-place : goal.invariant-loop-place
invariant-loop-place l = map (λ r. r.carry) (take l.place l.raws) ≡ take l.place l.carries
