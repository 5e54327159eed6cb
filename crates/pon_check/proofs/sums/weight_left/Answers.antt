use Rattle.std.proofs.Common.{get_or, false, arith}
use Rattle.std.proofs.Math.Numerals.{add-one}
use Rattle.pon_cert.specs.declared.problem.Item.{Item}
use Rattle.pon_cert.specs.Problem.{IsItem}
use Rattle.pon_check.proofs.Steps.{weight_from}
use Rattle.pon_check.proofs.sums.weight_left.Goals as goal
use Rattle.pon_check.proofs.sums.weight_left.Goals.{then-not-saturated-i, else-not-saturated-i}

pub loop-i-preserved : goal.loop-i-preserved
loop-i-preserved c =
    let none : Item = record { weight = 0; cap = 0 } in
    let step = weight_from c.args.items.now c.args.saturated.now c.loop-i.i none false (omega arith) (omega arith) in
    let it : IsItem (get_or c.args.items.now c.loop-i.i none) = c.requires.each c.loop-i.i none c.loop-i-test.true in
    elim c.if-not-saturated-i.branch [
      | then-not-saturated-i w ↦ record { sum = rw add-one (omega (arith, rw w.if-not-saturated-i.true at step, c.loop-i.invariant.sum)); small = omega (arith, it.weight_range) }
      | else-not-saturated-i w ↦ record { sum = rw add-one (omega (arith, rw w.if-not-saturated-i.false at step, c.loop-i.invariant.sum)); small = omega arith }
    ]
