use Rattle.std.proofs.Common.{rules, arith, ◌≡◌, ◌∙◌, ◌<◌, ◌∷◌, ◌++◌, [], ap, sym, length}
use Rattle.std.proofs.lemmas.List.{length_push}
use Rattle.pon_cert.specs.declared.problem.TheConstants.{MAX_ITEMS}
use Rattle.pon_check_file.specs.Stages.{after_items}
use Rattle.pon_check_file.proofs.StageLines.{one_item}
use Rattle.pon_check_file.proofs.stage.take_item.Goals as goal

pub returns-in-Some : goal.returns-in-Some
returns-in-Some c =
    let pushed : c.push.new.self.items ≡ c.args.shared.items.items ++ c.in-Some.item ∷ [] = search rules in
    let few : length c.args.shared.items.items < MAX_ITEMS = search rules in
    record {
      same = λ ls. one_item c.args.shared.surplus c.args.shared.items.items c.args.line.now c.in-Some.item ls few (search rules) ∙ ap (λ is. after_items c.args.shared.surplus is ls) (sym pushed);
      few = omega (arith, few, ap length pushed, length_push c.args.shared.items.items c.in-Some.item);
      lines = omega (arith, ap length pushed, length_push c.args.shared.items.items c.in-Some.item);
    }
