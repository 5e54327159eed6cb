use Rattle.std.proofs.Common.{◌≡◌, ◌+◌, ◌*◌, ◌≤◌, drop}
use Rattle.pon_units.specs.declared.limits.TheConstants.{LINE_RATE}
use Rattle.pon_cert.specs.Certificate.{unsaturated_weight}
use Rattle.pon_check.proofs.sums.weight_left.Given as goal

abbrev pub invariant-loop-i : goal.invariant-loop-i
invariant-loop-i l = record {
  sum : l.total + unsaturated_weight (drop l.i l.items) (drop l.i l.saturated) ≡ unsaturated_weight l.items l.saturated;
  small : l.total ≤ l.i * LINE_RATE;
}
