use Rattle.std.proofs.Common.{take, All}
use Rattle.pon_bwmap.specs.Alloc.{FitsFields}
use Rattle.pon_bwmap.proofs.rules.prove_ranges.Given as goal

abbrev pub invariant-loop-row : goal.invariant-loop-row
invariant-loop-row l = All FitsFields (take l.row-index l.rows)
