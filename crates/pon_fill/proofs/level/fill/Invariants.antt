use Rattle.std.proofs.Common.{◌≡◌, ◌+◌}
use Rattle.pon_fill.specs.Filling.{IsFilling, IsInRange, saturated_caps}
use Rattle.pon_fill.proofs.level.fill.Given as goal

abbrev pub invariant-loop-round : goal.invariant-loop-round
invariant-loop-round l = record {
  range : IsInRange l.rest;
  filling : IsFilling l.items l.rest l.saturated;
  spent : l.rest.surplus + saturated_caps l.items l.saturated ≡ l.surplus;
}
