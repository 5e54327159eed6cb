use Rattle.std.proofs.Common.{◌≡◌, ℕ, ◌+◌, ◌*◌, ◌<◌, ◌≤◌, false, length, get_or}
use Rattle.pon_cert.specs.declared.problem.Item.{Item}
use Rattle.pon_fill.specs.Filling.{IsFilling, IsInRange, saturated_caps}
use Rattle.pon_fill.proofs.level.saturate_met.Given as goal

abbrev pub invariant-loop-i : goal.invariant-loop-i
invariant-loop-i l = record {
  range : IsInRange l.left;
  filling : IsFilling l.items l.left l.saturated;
  spent : l.left.surplus + saturated_caps l.items l.saturated ≡ l.rest.surplus + saturated_caps l.items l.initial.saturated;
  higher : (cap weight : ℕ) → cap * l.rest.weight ≤ weight * l.rest.surplus → cap * l.left.weight ≤ weight * l.left.surplus;
  less : l.left.weight ≤ l.rest.weight;
  same : l.left.weight ≡ l.rest.weight → l.left ≡ l.rest;
  above : (k : ℕ) (d : Item) → k < l.i → k < length l.items → get_or l.saturated k false ≡ false → (get_or l.items k d).weight * l.rest.surplus < (get_or l.items k d).cap * l.rest.weight;
}
