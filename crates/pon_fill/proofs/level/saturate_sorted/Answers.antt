use Rattle.std.proofs.Common.{sym, ◌∙◌, arith}
use Rattle.std.proofs.lemmas.Bool.{leb-false}
use Rattle.std.proofs.lemmas.List.{get_or_default}
use Rattle.pon_fill.proofs.OrderLaws.{filled_in_order}
use Rattle.pon_fill.proofs.level.saturate_sorted.Goals as goal

pub returns-then-not-meets-clause-filled : goal.returns-then-not-meets-clause-filled
returns-then-not-meets-clause-filled c =
    filled_in_order c.args.items.now c.args.numbers.now c.loop-number.number-index c.loop-number.left c.loop-number.saturated c.requires.each c.requires.order c.loop-number.invariant.walked (λ lt d.
    rw (sym c.from-i.ensures, get_or_default c.args.items.now c.from-i.result d (record { weight = 0; cap = 0 }) (omega (arith, c.from-i.ensures, c.requires.order.below c.loop-number.number-index lt)))
    (leb-false _ _ (sym c.meets.ensures ∙ c.if-not-meets.true)))

pub returns-clause-filled : goal.returns-clause-filled
returns-clause-filled c = filled_in_order c.args.items.now c.args.numbers.now c.loop-number.number-index c.loop-number.left c.loop-number.saturated c.requires.each c.requires.order c.loop-number.invariant.walked (λ lt. absurd (omega (arith, lt)))
