use Rattle.std.proofs.Common.{◌≡◌, ◌-◌, ◌<◌, ◌≤◌, ℕ, length, take}
use Rattle.pon_link.specs.Reading.{IsOpen, holds_more}
use Rattle.pon_link.proofs.held.RecordBuffer.feed.Given as goal

abbrev pub invariant-loop-taken : goal.invariant-loop-taken
invariant-loop-taken g l = record {
  inside : l.taken ≤ length l.piece;
  held : l.self ≡ holds_more l.initial.self (take l.taken l.piece);
  while_open : (k : ℕ) → k < l.taken → IsOpen (holds_more l.initial.self (take k l.piece));
}

abbrev pub decreases-loop-taken : goal.decreases-loop-taken
decreases-loop-taken g l = length l.piece - l.taken
