use Rattle.std.proofs.Common.{take}
use Rattle.pon_port.proofs.InRange.{AreRowsInRange}
use Rattle.pon_port.proofs.ranges.prove_reports.Given as goal

abbrev pub invariant-loop-row : goal.invariant-loop-row
invariant-loop-row l = AreRowsInRange l.state.book (take l.row-index l.row-items)
