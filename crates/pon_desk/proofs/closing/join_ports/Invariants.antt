use Rattle.std.proofs.Common.{◌≡◌, ◌+◌, ◌≤◌, length, vec_len, vec_capacity}
use Rattle.std.specs.Prelude.{sum_by}
use Rattle.pon_desk.specs.Counts.{taken_of}
use Rattle.pon_desk.proofs.closing.join_ports.Given as goal

-- the ports so far, and those to come
abbrev pub invariant-loop-lock : goal.invariant-loop-lock
invariant-loop-lock g l =
    (vec_len l.room + length l.lock-iterator.rest.items ≡ vec_len l.fn.ports)
    × (vec_len l.fn.ports ≤ vec_capacity l.room)
    × (l.all.parts ≡ vec_len l.room)
    × (l.all.amount ≡ sum_by taken_of l.room.items)
