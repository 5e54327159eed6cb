use Rattle.std.proofs.Common.{◌+◌, ◌<◌, ◌∙◌, List, ap, arith, inl, inr, length, length-set, refl, subst, sym, ℕ}
use Rattle.std.specs.Prelude.{sum}
use Rattle.pon_lists.specs.Kept.{kept_items}
use Rattle.pon_desk.specs.Counts.{SeatState}
use Rattle.pon_desk.proofs.Posted.{counted_sum, posted_count}
use Rattle.pon_desk.proofs.held.Held.post.Goals as goal
use Rattle.pon_desk.proofs.held.Held.post.Goals.{in-Ok, in-Err}

pub count-requires-clause-port : goal.count-requires-clause-port
count-requires-clause-port g c = omega (arith, c.self.invariant.0)

pub count-requires-clause-seat : goal.count-requires-clause-seat
count-requires-clause-seat g c = omega (arith, c.seat.invariant.1)

pub invariant_of-self : goal.invariant_of-self
invariant_of-self g c = (c.count.ensures.parts.0 ∙ c.self.invariant.0, (c.count.ensures.full c.if-not-count.true).0 ∙ c.self.invariant.1)

pub invariant_of-seat : goal.invariant_of-seat
invariant_of-seat g c = (
  c.seat.invariant.0,
  c.count.ensures.parts.1 ∙ c.seat.invariant.1,
  (c.count.ensures.full c.if-not-count.true).1 ∙ c.seat.invariant.2,
)

pub returns-then-not-count-clause-refused : goal.returns-then-not-count-clause-refused
returns-then-not-count-clause-refused g c = inr refl

pub returns-then-not-count-clause-err : goal.returns-then-not-count-clause-err
returns-then-not-count-clause-err g c = (c.self.view_is, c.seat.view_is)

pub count_at-nth-requires-clause-is_port : goal.count_at-nth-requires-clause-is_port
count_at-nth-requires-clause-is_port g c = subst (λ (s : SeatState). c.args.port < length s.counts) (sym c.seat.view_is) c.requires

pub count_at-nth-requires-clause-fits : goal.count_at-nth-requires-clause-fits
count_at-nth-requires-clause-fits g c = omega (arith, c.count.ensures.fits c.if-not-count.false, c.count.ensures.at_seat c.if-not-count.false, c.seat.invariant.2)

pub uncount-requires-clause-port : goal.uncount-requires-clause-port
uncount-requires-clause-port g c = omega (arith, c.count.ensures.at_port c.if-not-count.false)

pub uncount-requires-clause-seat : goal.uncount-requires-clause-seat
uncount-requires-clause-seat g c = omega (arith, c.count.ensures.at_seat c.if-not-count.false)

pub invariant_of-self-2 : goal.invariant_of-self-2
invariant_of-self-2 g c =
    elim c.match-take.branch [
      | in-Ok w ↦ rw w.self-inside-is (
        c.count.ensures.parts.0 ∙ c.self.invariant.0,
        c.count.ensures.at_port c.if-not-count.false ∙ ap (λ (n : ℕ). n + 1) c.self.invariant.1 ∙ sym (posted_count _ _ _ _ w.in-Ok.ensures.ok),
      )
      | in-Err w ↦ rw (w.self-inside-is, w.in-Err.ensures.err) (
        w.uncount.ensures.parts.0 ∙ c.count.ensures.parts.0 ∙ c.self.invariant.0,
        omega (arith, w.uncount.ensures.port, c.count.ensures.at_port c.if-not-count.false, c.self.invariant.1),
      )
    ]

pub invariant_of-seat-2 : goal.invariant_of-seat-2
invariant_of-seat-2 g c =
    elim c.match-take.branch [
      | in-Ok w ↦ rw w.seat-inside-is (
        ap (λ (l : List ℕ). length l) w.count_at-nth.ensures.counted ∙ length-set c.seat.inside.counts.items c.args.port _ ∙ c.seat.invariant.0,
        c.count.ensures.parts.1 ∙ c.seat.invariant.1,
        c.count.ensures.at_seat c.if-not-count.false ∙ ap (λ (n : ℕ). n + 1) c.seat.invariant.2 ∙ sym (ap sum w.count_at-nth.ensures.counted ∙ counted_sum c.seat.inside.counts.items c.args.port (subst (λ (s : SeatState). c.args.port < length s.counts) (sym c.seat.view_is) c.requires)),
      )
      | in-Err w ↦ rw w.seat-inside-is (
        c.seat.invariant.0,
        w.uncount.ensures.parts.1 ∙ c.count.ensures.parts.1 ∙ c.seat.invariant.1,
        omega (arith, w.uncount.ensures.seat, c.count.ensures.at_seat c.if-not-count.false, c.seat.invariant.2),
      )
    ]

pub returns-clause-ok : goal.returns-clause-ok
returns-clause-ok g c =
    elim c.match-take.branch [
      | in-Ok w ↦ rw (w.result-is, w.self-inside-is, ← c.self.view_is) w.in-Ok.ensures.ok
      | in-Err w ↦ rw w.result-is tt
    ]

pub returns-clause-names : goal.returns-clause-names
returns-clause-names g c =
    elim c.match-take.branch [
      | in-Ok w ↦ rw (w.result-is, ← c.seat.view_is) (record { at_port = refl; of_seat = refl; nth = w.count_at-nth.ensures.former })
      | in-Err w ↦ rw w.result-is tt
    ]

pub returns-clause-refused : goal.returns-clause-refused
returns-clause-refused g c =
    elim c.match-take.branch [
      | in-Ok w ↦ rw w.result-is tt
      | in-Err w ↦ rw (w.result-is, ← c.self.view_is) (inl w.in-Err.ensures.refused)
    ]

pub returns-clause-counted : goal.returns-clause-counted
returns-clause-counted g c =
    elim c.match-take.branch [
      | in-Ok w ↦ rw (w.result-is, w.seat-inside-is, ← c.seat.view_is) (λ j. record { number = c.seat.inside.number; counts = w.count_at-nth.ensures.counted j; receipts = kept_items c.seat.inside.kept })
      | in-Err w ↦ rw w.result-is tt
    ]

pub returns-clause-err : goal.returns-clause-err
returns-clause-err g c =
    elim c.match-take.branch [
      | in-Ok w ↦ rw w.result-is tt
      | in-Err w ↦ rw (w.result-is, w.self-inside-is, w.seat-inside-is) (w.in-Err.ensures.err ∙ c.self.view_is, c.seat.view_is)
    ]
