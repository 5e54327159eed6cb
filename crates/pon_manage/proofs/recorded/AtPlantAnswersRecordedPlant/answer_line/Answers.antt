use Rattle.std.proofs.Common.{ap, length, subst, sym, ◌∙◌}
use Rattle.pon_line.specs.Reading.{AsksWithin, read_line}
use Rattle.pon_line.proofs.Asking.{read_line-within}
use Rattle.pon_manage.proofs.recorded.AtPlantAnswersRecordedPlant.answer_line.Goals as goal

pub answer_in_room-requires : goal.answer_in_room-requires
answer_in_room-requires g c =
    let ports = length c.args.at.now.plant in
    subst (AsksWithin ports) (sym (c.read_line-reading.ensures ∙ ap (λ n. read_line n c.args.line.now) c.count.ensures.count)) (read_line-within ports c.args.line.now)
