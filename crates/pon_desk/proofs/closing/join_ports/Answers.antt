use Rattle.std.proofs.Common.{◌≡◌, List, ap, arith, length, suc}
use Rattle.std.specs.Prelude.{sum_by}
use Rattle.std.proofs.lemmas.List.Sums.{sum_by_push}
use Rattle.pon_history.specs.Chapters.{Chapter}
use Rattle.pon_desk.specs.Counts.{taken_of}
use Rattle.pon_desk.proofs.closing.join_ports.Goals as goal

pub push_reserved-requires : goal.push_reserved-requires
push_reserved-requires g c =
    let more : length c.loop-lock.lock-iterator.rest.items ≡ suc (length c.next.new.self.rest.items) = ap (λ l. length l) c.in-Some.ensures.steps.0 in
    omega (arith, c.loop-lock.invariant.0, c.loop-lock.invariant.1, more)

pub loop-lock-preserved : goal.loop-lock-preserved
loop-lock-preserved g c =
    let held = c.loop-lock.invariant in
    let pushed = c.push_reserved.ensures in
    let joined = c.merge.ensures in
    let share = c.port.invariant in
    let more : length c.loop-lock.lock-iterator.rest.items ≡ suc (length c.next.new.self.rest.items) = ap (λ l. length l) c.in-Some.ensures.steps.0 in (
      omega (arith, pushed.len, more, held.0),
      omega (arith, pushed.capacity, held.1),
      omega (arith, joined.parts, share.0, pushed.len, held.2),
      omega (arith, joined.amount, share.1, held.3, ap (λ (l : List Chapter). sum_by taken_of l) {x = c.push_reserved.new.self.items} c.push_reserved.ensures.items, sum_by_push taken_of c.loop-lock.room.items c.port.inside.port),
    )

pub returns-clause-amount : goal.returns-clause-amount
returns-clause-amount g c = c.loop-lock.invariant.3
