use Rattle.std.proofs.Common.{subst, sym}
use Rattle.std.specs.List.{AllZip}
use Rattle.pon_audit.specs.Judging.{IsJudgment}
use Rattle.pon_look.proofs.Judgments.{answers_in}
use Rattle.pon_look.proofs.summing.add_in_threads.Goals as goal

pub returns : goal.returns
returns g c = subst (AllZip IsJudgment c.args.chapters.now) (sym c.in_ok-answers.ensures) (answers_in c.args.chapters.now _ c.in_ok-parts.ensures)
