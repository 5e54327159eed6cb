use Rattle.std.proofs.Common.{length, ◌∙◌, arith}
use Rattle.pon_fill.proofs.Filling.{certificate, none_filled, none_left, none_spent}
use Rattle.pon_fill.proofs.level.fill.Goals as goal
use Rattle.pon_fill.proofs.level.fill.Goals.{then-left-eq0-via-then-left-eq0, then-left-eq0-via-else-left-eq0+then-left-rest}

pub loop-round-init : goal.loop-round-init
loop-round-init c = record {
  range = (omega (arith, c.of-rest.ensures.surplus, c.requires.problem.surplus_range), c.of-rest.ensures.small);
  filling = rw (c.fill.ensures.after (λ y e. e)) (none_filled c.args.items.now c.of-rest.result _ c.requires.flags c.of-rest.ensures.weight);
  spent = rw (c.fill.ensures.after (λ y e. e)) (omega (arith, c.of-rest.ensures.surplus, none_spent c.args.items.now (length c.args.saturated.now)));
}

pub returns-then-left-eq0 : goal.returns-then-left-eq0
returns-then-left-eq0 c =
    certificate c.args.items.now c.args.surplus c.saturate_met-left.result c.saturate_met-left.new.saturated c.level.result c.level.ensures c.saturate_met-left.ensures.filling
    (c.saturate_met-left.ensures.spent ∙ c.loop-round.invariant.spent)
    (elim c.then-left-eq0.branch [
      | then-left-eq0-via-then-left-eq0 w ↦ none_left c.args.items.now c.saturate_met-left.result c.saturate_met-left.new.saturated c.requires.problem.each c.saturate_met-left.ensures.filling w.if-left-eq0.true
      | then-left-eq0-via-else-left-eq0+then-left-rest w ↦ c.saturate_met-left.ensures.filled w.if-left-rest.true
    ])

pub returns : goal.returns
returns c =
    certificate c.args.items.now c.args.surplus c.saturate_sorted.result c.saturate_sorted.new.saturated c.level-2.result c.level-2.ensures c.saturate_sorted.ensures.filling
    (c.saturate_sorted.ensures.spent ∙ c.loop-round.invariant.spent) c.saturate_sorted.ensures.filled
