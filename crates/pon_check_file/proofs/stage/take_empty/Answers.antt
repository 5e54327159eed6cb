use Rattle.std.proofs.Common.{rules, refl}
use Rattle.pon_check_file.specs.Stages.{filed}
use Rattle.pon_check_file.proofs.StageLines.{no_empty, one_empty}
use Rattle.pon_check_file.proofs.stage.take_empty.Goals as goal

pub returns-then-is_empty : goal.returns-then-is_empty
returns-then-is_empty c = record {
  same = λ ls. one_empty (filed c.args.filled.file) c.args.filled.lines c.args.line.now ls (search rules);
  few = tt;
  lines = refl;
}

pub returns-else-is_empty : goal.returns-else-is_empty
returns-else-is_empty c = λ ls. no_empty (filed c.args.filled.file) c.args.filled.lines c.args.line.now ls (search rules)
