use Rattle.std.proofs.Common.{ap, subst, sym, ◌∙◌}
use Rattle.pon_line.specs.Reading.{AsksWithin, read_line}
use Rattle.pon_line.proofs.Asking.{read_line-within}
use Rattle.pon_manage.proofs.noted_desk.NotedDeskAnswersSeat.answer_line.Goals as goal

pub answer-requires : goal.answer-requires
answer-requires g c =
    let ports = c.args.self.now.at.desk.now.ports in
    subst (AsksWithin ports) (sym (c.read_line-reading.ensures ∙ ap (λ n. read_line n c.args.line.now) c.ports-2.ensures.value)) (read_line-within ports c.args.line.now)
