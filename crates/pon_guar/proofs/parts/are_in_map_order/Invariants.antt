use Rattle.std.proofs.Common.{take}
use Rattle.pon_units.specs.Granted.{AreInMapOrder}
use Rattle.pon_guar.proofs.parts.are_in_map_order.Given as goal

-- those so far are in order
abbrev pub invariant-loop-place : goal.invariant-loop-place
invariant-loop-place l = AreInMapOrder (take l.place l.grants)
