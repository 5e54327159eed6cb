use Rattle.std.proofs.Common.{◌≡◌, length, sym, ap, subst, arith, ℕ, List, Option}
use Rattle.pon_link.proofs.UnitSteps.{HasAnswered, none_answered, all_answered, no_room, one_more}
use Rattle.pon_link.proofs.unit.answer_all.Goals as goal
use Rattle.pon_link.proofs.unit.answer_all.Goals.{then-as_slice-lt-MAX_SERIES, else-as_slice-lt-MAX_SERIES}

pub loop-row-init : goal.loop-row-init
loop-row-init c = subst (λ (occ : List (Option ℕ)). HasAnswered c.args.queues.now c.args.rows.now 0 c.args.queues.now occ) (sym c.new-occ.ensures) (none_answered c.args.queues.now c.args.rows.now)

pub loop-row-preserved : goal.loop-row-preserved
loop-row-preserved c =
    let first = c.args.queues.now in
    let rows = c.args.rows.now in
    let k = c.loop-row.row-index in
    let size : length c.as_slice.result.now ≡ length c.loop-row.occ = ap (λ (t : List (Option ℕ)). length t) c.as_slice.ensures.value in
    elim c.if-as_slice-lt-MAX_SERIES.branch [
      | then-as_slice-lt-MAX_SERIES w ↦ rw (w.queues-is, w.occ-is) (one_more first rows k c.loop-row.queues w.answer_one.new.queues c.loop-row.occ w.answer_one.new.occ c.row-item.result c.loop-row.invariant c.loop-row-test.true c.row-item.is (omega (arith, size, w.if-as_slice-lt-MAX_SERIES.true)) w.answer_one.ensures.asks w.answer_one.ensures.others)
      | else-as_slice-lt-MAX_SERIES w ↦ rw (w.queues-is, w.occ-is) (no_room first rows k c.loop-row.queues c.loop-row.occ c.loop-row.invariant (omega (arith, size, w.if-as_slice-lt-MAX_SERIES.false)))
    ]

pub returns-clause-reports : goal.returns-clause-reports
returns-clause-reports c = (all_answered c.args.queues.now c.args.rows.now c.loop-row.row-index c.loop-row.queues c.loop-row.occ c.loop-row.invariant (omega (arith, c.loop-row-test.false))).0

pub returns-clause-queues : goal.returns-clause-queues
returns-clause-queues c = (all_answered c.args.queues.now c.args.rows.now c.loop-row.row-index c.loop-row.queues c.loop-row.occ c.loop-row.invariant (omega (arith, c.loop-row-test.false))).1
