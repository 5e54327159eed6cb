use Rattle.std.proofs.Common.{rules, arith}
use Rattle.pon_check_file.proofs.StageLines.{no_level, one_level}
use Rattle.pon_check_file.proofs.stage.take_level.Goals as goal

pub returns-in-Some : goal.returns-in-Some
returns-in-Some c = record {
  same = λ ls. one_level c.args.shared.surplus c.args.shared.items.items c.args.line.now c.in-Some.level ls c.requires.no_item (search rules);
  few = c.requires.few;
  lines = omega arith;
}

pub returns-in-None : goal.returns-in-None
returns-in-None c = λ ls. no_level c.args.shared.surplus c.args.shared.items.items c.args.line.now ls c.requires.no_item (search rules)
