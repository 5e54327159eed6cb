use Rattle.std.proofs.Common.{◌≡◌, ◌≤◌, length, take}
use Rattle.pon_desk.specs.Settling.{posts_of}
use Rattle.pon_desk.proofs.settling.posts_of.Given as goal

-- no receipt from here on is of the seat
abbrev pub invariant-loop-left : goal.invariant-loop-left
invariant-loop-left l = (l.left ≤ length l.receipts) × (posts_of l.seat l.receipts ≡ posts_of l.seat (take l.left l.receipts))

abbrev pub decreases-loop-left : goal.decreases-loop-left
decreases-loop-left l = l.left
