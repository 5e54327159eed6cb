use Rattle.std.proofs.Common.{take}
use Rattle.pon_audit.proofs.OpenedStates.{RowsInOrder}
use Rattle.pon_audit.proofs.openings.are_in_map_order.Given as goal

-- the rows so far are in order
abbrev pub invariant-loop-place : goal.invariant-loop-place
invariant-loop-place l = RowsInOrder (take l.place l.rows)
