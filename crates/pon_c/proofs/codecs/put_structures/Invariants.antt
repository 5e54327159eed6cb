use Rattle.std.proofs.Common.{◌≡◌, ◌++◌, drop, take}
use Rattle.pon_c.specs.Codecs.{structures_of}
use Rattle.pon_c.proofs.codecs.put_structures.Given as goal

abbrev pub invariant-loop-place : goal.invariant-loop-place
invariant-loop-place l = l.rows ≡ structures_of (take l.place l.structures) ++ drop l.place l.initial.rows
