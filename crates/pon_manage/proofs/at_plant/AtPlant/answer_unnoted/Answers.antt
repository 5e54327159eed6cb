use Rattle.std.proofs.Common.{ap, length, subst, sym, ◌∙◌}
use Rattle.pon_line.specs.Reading.{AsksWithin, read_line}
use Rattle.pon_line.proofs.Asking.{read_line-within}
use Rattle.pon_manage.proofs.at_plant.AtPlant.answer_unnoted.Goals as goal

pub answer_frame_line-requires : goal.answer_frame_line-requires
answer_frame_line-requires g c =
    let ports = length c.args.plant.now in
    subst (AsksWithin ports) (ap (λ n. read_line n c.args.line.now) (sym c.count-ports.ensures.count) ∙ c.in-Some.ensures) (read_line-within ports c.args.line.now)

pub answer-requires : goal.answer-requires
answer-requires g c =
    let ports = length c.args.plant.now in
    subst (AsksWithin ports) (sym (c.read_line.ensures ∙ ap (λ n. read_line n c.args.line.now) c.count-ports.ensures.count)) (read_line-within ports c.args.line.now)
