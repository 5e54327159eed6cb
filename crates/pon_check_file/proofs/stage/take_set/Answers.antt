use Rattle.std.proofs.Common.{rules, arith, ◌≡◌, ◌∙◌, ◌+◌, ap, sym, length}
use Rattle.pon_check_file.specs.Stages.{after_file}
use Rattle.pon_check_file.proofs.StageLines.{no_set, one_set}
use Rattle.pon_check_file.proofs.stage.take_set.Goals as goal

pub returns-in_default : goal.returns-in_default
returns-in_default c = λ ls. no_set c.args.levelled.shared.surplus c.args.levelled.shared.items.items c.args.levelled.level c.args.line.now ls (search rules)

pub returns : goal.returns
returns c =
    let count : c.len-count.result ≡ length c.args.levelled.shared.items.items = search rules in
    record {
      same = λ ls. one_set c.args.levelled.shared.surplus c.args.levelled.shared.items.items c.args.levelled.level c.args.line.now c.in-Some.saturated ls (search rules)
          ∙ ap (λ n. after_file (record { surplus = c.args.levelled.shared.surplus; items = c.args.levelled.shared.items.items; cert = record { level = c.args.levelled.level; saturated = c.in-Some.saturated } }) (n + 3) ls) (sym count);
      few = tt;
      lines = omega (arith, count);
    }
