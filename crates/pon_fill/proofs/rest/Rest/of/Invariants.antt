use Rattle.std.proofs.Common.{◌≡◌, ◌+◌, ◌*◌, ◌≤◌, drop}
use Rattle.std.specs.Prelude.{sum_by}
use Rattle.pon_units.specs.declared.limits.TheConstants.{LINE_RATE}
use Rattle.pon_fill.proofs.rest.Rest.of.Given as goal

abbrev pub invariant-loop-item : goal.invariant-loop-item
invariant-loop-item l = record {
  sum : l.weight + sum_by (λ i. i.weight) (drop l.item-index l.items) ≡ sum_by (λ i. i.weight) l.items;
  small : l.weight ≤ l.item-index * LINE_RATE;
}
