use Rattle.std.proofs.Common.{◌≡◌, ◌≤◌, ◌++◌, length}
use Rattle.std.specs.Prelude.{sum}
use Rattle.pon_desk.specs.Counts.{AreSums}
use Rattle.pon_desk.proofs.closing.join_seats.Given as goal

-- the seats so far, and those to come
abbrev pub invariant-loop-seat : goal.invariant-loop-seat
invariant-loop-seat g l =
    (l.yielded ++ l.seat-iterator.rest.items ≡ l.fn.seats.items)
    × AreSums l.sums g.L.Ledger.parts l.yielded
    × (l.book.total ≡ l.fn.book.total)
    × (l.all.parts ≡ length l.yielded)
    × (l.all.amount ≡ sum l.sums)
    × (l.all.parts ≤ g.M.Ledger.parts)
