use Rattle.std.proofs.Common.{◌≡◌, ℕ, ◌+◌, ◌<◌, List, [], ◌∷◌, ◌++◌, length, rules, subst, refl, sym, ap, ◌∙◌, arith, length-append, append_assoc}
use Rattle.std.specs.Prelude.{slice_index, sum}
use Rattle.pon_desk.specs.Counts.{SeatState, AreSums}
use Rattle.pon_desk.proofs.Sums.{no_sums, more_sums, zero_sum, sum_added}
use Rattle.pon_desk.proofs.closing.join_seats.Goals as goal

pub loop-seat-init : goal.loop-seat-init
loop-seat-init g c =
    let zero = c.requires.zero in
    let P : List ℕ → Type 0 = λ xs. AreSums xs g.L.Ledger.parts [] in (
      c.into_iter-seat-iterator.ensures.into_iter_gives.0,
      subst P (sym zero) (no_sums g.L.Ledger.parts),
      refl,
      c.requires.none.0,
      c.requires.none.1 ∙ sym (ap sum zero ∙ zero_sum g.L.Ledger.parts),
      omega (arith, c.requires.none.0),
    )

pub loop-seat-preserved : goal.loop-seat-preserved
loop-seat-preserved g c =
    let held = c.loop-seat.invariant in
    let old = c.loop-seat.sums in
    let new = c.add_counts.new.sums in
    let seat : SeatState = c.in-Some.seat in
    let part = c.counts_and_share-counts.ensures in
    let same : c.as_slice.result.now ≡ seat.counts = c.as_slice.ensures.value ∙ part.counts in
    let long : length new ≡ length old = search rules in
    let Added : List ℕ → Type 0 = λ xs. (p : ℕ) → p < length xs → slice_index new p ≡ slice_index old p + slice_index xs p in
    let added = subst Added same c.add_counts.ensures in
    let both = sum_added old seat.counts new (held.1.one_each ∙ sym part.one_each) (long ∙ (held.1.one_each ∙ sym part.one_each)) added in (
      append_assoc c.loop-seat.yielded (seat ∷ []) c.next.new.self.rest.items ∙ ap (λ rest. c.loop-seat.yielded ++ rest) (sym c.in-Some.ensures.steps.0) ∙ held.0,
      more_sums old new g.L.Ledger.parts c.loop-seat.yielded seat held.1 long part.one_each added,
      c.audit.ensures.total ∙ held.2,
      omega (arith, c.audit.ensures.parts, c.merge.ensures.parts, held.3, part.part, length-append c.loop-seat.yielded (seat ∷ [])),
      omega (arith, c.audit.ensures.amount, c.merge.ensures.amount, held.4, part.amount, both),
      omega (arith, c.audit.ensures.parts, c.merge.ensures.apart),
    )

pub add_counts-requires-clause-one_each : goal.add_counts-requires-clause-one_each
add_counts-requires-clause-one_each g c = c.loop-seat.invariant.1.one_each ∙ sym (ap (λ (l : List ℕ). length l) (c.as_slice.ensures.value ∙ c.counts_and_share-counts.ensures.counts) ∙ c.counts_and_share-counts.ensures.one_each)

pub add_counts-requires-clause-fits : goal.add_counts-requires-clause-fits
add_counts-requires-clause-fits g c = omega (arith, c.loop-seat.invariant.2, c.requires.fits, c.loop-seat.invariant.4, c.merge.ensures.amount, c.counts_and_share-counts.ensures.amount, ap sum (c.as_slice.ensures.value ∙ c.counts_and_share-counts.ensures.counts), c.audit.ensures.amount, c.audit.ensures.bound, c.audit.ensures.total)

pub returns-clause-total : goal.returns-clause-total
returns-clause-total g c = c.loop-seat.invariant.2

pub returns-clause-amount : goal.returns-clause-amount
returns-clause-amount g c = c.loop-seat.invariant.4
