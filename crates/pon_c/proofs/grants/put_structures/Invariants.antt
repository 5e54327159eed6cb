use Rattle.std.proofs.Common.{◌≡◌, ◌++◌, drop, take}
use Rattle.pon_c.specs.Grants.{grants_of}
use Rattle.pon_c.proofs.grants.put_structures.Given as goal

abbrev pub invariant-loop-place : goal.invariant-loop-place
invariant-loop-place l = l.grants ≡ grants_of (take l.place l.structures) ++ drop l.place l.initial.grants
