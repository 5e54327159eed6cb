use Rattle.std.proofs.Common.{◌≡◌, ◌*◌, ◌≤◌, take}
use Rattle.std.specs.Prelude.{sum_by}
use Rattle.pon_units.specs.declared.limits.TheConstants.{LINE_RATE}
use Rattle.pon_sure.specs.Sure.{most_before_best_effort}
use Rattle.pon_sure.proofs.sure.all_before.Given as goal

abbrev pub invariant-loop-row : goal.invariant-loop-row
invariant-loop-row l = record {
  sum : l.sum ≡ sum_by most_before_best_effort (take l.row-index l.rows);
  small : l.sum ≤ l.row-index * LINE_RATE;
}
