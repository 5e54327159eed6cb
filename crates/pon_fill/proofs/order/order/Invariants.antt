use Rattle.std.proofs.Common.{◌≡◌, ◌*◌, ◌/◌, ◌<◌, ℕ, length, get_or}
use Rattle.pon_cert.specs.declared.problem.TheConstants.{MAX_ITEMS}
use Rattle.pon_cert.specs.declared.problem.Item.{Item}
use Rattle.pon_fill.proofs.order.order.Given as goal

abbrev pub invariant-loop-i : goal.invariant-loop-i
invariant-loop-i l = record {
  long : length l.keys ≡ MAX_ITEMS;
  numbers : (k : ℕ) → k < l.i → get_or l.numbers k 0 ≡ k;
  keys : (k : ℕ) (d : Item) → k < l.i → get_or l.keys k 0 ≡ (get_or l.items k d).cap * 6191736422400 / (get_or l.items k d).weight;
}
