use Rattle.std.proofs.Common.{◌≡◌, ◌++◌, map}
use Rattle.pon_run.proofs.ports.split_results.Given as goal

-- the seats and sinks so far, and the results to come
abbrev pub invariant-loop-seat : goal.invariant-loop-seat
invariant-loop-seat g l = record {
  all : l.yielded ++ l.seat-iterator.rest.items ≡ l.fn.all.items;
  seats : l.seats.items ≡ l.initial.seats.items ++ map (λ w. w.seat) l.yielded;
  sinks : l.sinks.items ≡ map (λ w. w.sink) l.yielded;
}
