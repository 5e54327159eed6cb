use Rattle.std.proofs.Common.{◌∙◌, ap}
use Rattle.pon_check_file.specs.Stages.{filed, said}
use Rattle.pon_check_file.proofs.ReadWhole.{read_is_problem}
use Rattle.pon_check_file.proofs.answer.answer_of.Goals as goal

pub judge-requires : goal.judge-requires
judge-requires c = read_is_problem c.requires.0 (filed c.in-File.file) (c.requires.1 ∙ ap said c.in-File.is)
