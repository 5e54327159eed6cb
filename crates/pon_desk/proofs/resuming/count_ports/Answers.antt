use Rattle.std.proofs.Common.{◌≡◌, ℕ, List, ap, arith, map}
use Rattle.std.specs.Prelude.{sum, sum_by}
use Rattle.std.proofs.lemmas.List.Sums.{sum-map, sum_by-append, sum_by-cons}
use Rattle.pon_history.specs.Chapters.{Chapter}
use Rattle.pon_desk.specs.Counts.{taken_of}
use Rattle.pon_desk.proofs.resuming.count_ports.Goals as goal

pub returns-then-taken-entries-clause-err : goal.returns-then-taken-entries-clause-err
returns-then-taken-entries-clause-err g c =
    let rest = c.loop-port.port-iterator.rest.items in
    let counts = c.loop-port.counts.items in
    omega (
      arith,
      sum-map taken_of c.args.ports.items,
      ap sum c.loop-port.invariant.counts,
      sum_by-append (λ (n : ℕ). n) counts (map taken_of rest),
      sum-map taken_of rest,
      ap (λ (l : List Chapter). sum_by taken_of l) c.in-Some.ensures.steps.0,
      sum_by-cons taken_of c.in-Some.port c.next.new.self.rest.items,
      c.taken-taken.ensures,
      c.if-taken-entries.true,
      c.loop-port.invariant.entries,
    )
