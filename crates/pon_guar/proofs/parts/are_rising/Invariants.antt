use Rattle.std.proofs.Common.{take}
use Rattle.pon_lists.specs.Order.{AreRising}
use Rattle.pon_guar.proofs.parts.are_rising.Given as goal

-- those so far are in order
abbrev pub invariant-loop-place : goal.invariant-loop-place
invariant-loop-place l = AreRising (take l.place l.onus)
