use Rattle.std.proofs.Common.{◌≡◌, ◌++◌, map}
use Rattle.pon_run.proofs.seats.join_seats.Given as goal

-- the seats so far, and the operators to come
abbrev pub invariant-loop-seat : goal.invariant-loop-seat
invariant-loop-seat g l = record {
  all : l.yielded ++ l.seat-iterator.rest.items ≡ l.fn.operators.items;
  seats : l.seats.items ≡ l.initial.seats.items ++ map (λ o. o.seat) l.yielded;
}
