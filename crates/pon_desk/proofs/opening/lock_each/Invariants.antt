use Rattle.std.proofs.Common.{◌≡◌, ◌+◌, ◌≤◌, length, vec_len, vec_capacity}
use Rattle.pon_desk.proofs.opening.lock_each.Given as goal

-- the ports so far are locked, and there is room for the others
abbrev pub invariant-loop-held : goal.invariant-loop-held
invariant-loop-held g l =
    (vec_len l.locks + length l.held-iterator.rest.items ≡ vec_len l.fn.ports)
    × (vec_len l.fn.ports ≤ vec_capacity l.locks)
