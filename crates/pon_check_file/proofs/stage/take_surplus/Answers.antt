use Rattle.std.proofs.Common.{rules, arith, ◌≡◌, ◌∙◌, [], ap, sym, length}
use Rattle.pon_check_file.specs.Stages.{after_items}
use Rattle.pon_check_file.proofs.StageLines.{no_surplus, one_surplus}
use Rattle.pon_check_file.proofs.stage.take_surplus.Goals as goal

pub returns-in-Some : goal.returns-in-Some
returns-in-Some c =
    let none : c.new.result.items ≡ [] = search rules in
    record {
      same = λ ls. one_surplus c.args.line.now c.in-Some.surplus ls (search rules) ∙ ap (λ is. after_items c.in-Some.surplus is ls) (sym none);
      few = omega (arith, ap length none);
      lines = omega (arith, ap length none);
    }

pub returns-in-None : goal.returns-in-None
returns-in-None c = λ ls. no_surplus c.args.line.now ls (search rules)
