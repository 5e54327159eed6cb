use Rattle.std.proofs.Common.{◌≡◌, ◌+◌}
use Rattle.pon_fill.specs.Filling.{IsFilling, IsInRange, saturated_caps}
use Rattle.pon_fill.proofs.OrderLaws.{IsWalked}
use Rattle.pon_fill.proofs.level.saturate_sorted.Given as goal

abbrev pub invariant-loop-number : goal.invariant-loop-number
invariant-loop-number l = record {
  range : IsInRange l.left;
  filling : IsFilling l.items l.left l.saturated;
  spent : l.left.surplus + saturated_caps l.items l.saturated ≡ l.fn.rest.surplus + saturated_caps l.items l.initial.saturated;
  walked : IsWalked l.numbers l.number-index l.saturated;
}
