use Rattle.std.proofs.Common.{◌≡◌, ◌*◌, ◌≤◌, take}
use Rattle.std.specs.Prelude.{sum_by}
use Rattle.pon_units.specs.declared.limits.TheConstants.{LINE_RATE}
use Rattle.pon_cert.proofs.left.caps_sum.Given as goal

abbrev pub invariant-loop-item : goal.invariant-loop-item
invariant-loop-item l = record {
  sum : l.sum ≡ sum_by (λ item. item.cap) (take l.item-index l.items);
  small : l.sum ≤ l.item-index * LINE_RATE;
}
