use Rattle.std.proofs.Common.{◌≡◌, ◌*◌, ◌≤◌, take}
use Rattle.std.specs.Prelude.{sum_by}
use Rattle.pon_units.specs.declared.limits.TheConstants.{LINE_RATE}
use Rattle.pon_sure.specs.Sure.{weight_within}
use Rattle.pon_sure.proofs.sure.class_weight.Given as goal

abbrev pub invariant-loop-row : goal.invariant-loop-row
invariant-loop-row l = record {
  sum : l.sum ≡ sum_by (weight_within l.class) (take l.row-index l.rows);
  small : l.sum ≤ l.row-index * LINE_RATE;
}
