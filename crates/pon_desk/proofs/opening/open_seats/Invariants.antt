use Rattle.std.proofs.Common.{◌≡◌, ◌+◌}
use Rattle.pon_desk.specs.Counts.{AreUnused}
use Rattle.pon_desk.proofs.opening.open_seats.Given as goal

-- the seats so far have no posts, and the other parts remain
abbrev pub invariant-loop-number : goal.invariant-loop-number
invariant-loop-number g l =
    (l.all.parts + l.number ≡ l.seats) × (l.all.amount ≡ 0) × AreUnused l.number l.ports l.opened.items
