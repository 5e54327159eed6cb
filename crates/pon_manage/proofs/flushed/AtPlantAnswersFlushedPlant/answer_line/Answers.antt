use Rattle.std.proofs.Common.{ap, length, subst, sym, ◌∙◌}
use Rattle.pon_line.specs.Reading.{AsksWithin, read_line}
use Rattle.pon_line.proofs.Asking.{read_line-within}
use Rattle.pon_manage.specs.Paths.{records_path}
use Rattle.pon_manage.proofs.FlushedPlans.{cut_length}
use Rattle.pon_manage.proofs.flushed.AtPlantAnswersFlushedPlant.answer_line.Goals as goal

pub cut_before-requires : goal.cut_before-requires
cut_before-requires g c =
    let ports = length c.args.at.now.recorded.plant in
    subst (AsksWithin ports) (sym (c.read_line-reading.ensures ∙ ap (λ n. read_line n c.args.line.now) c.count.ensures.count)) (read_line-within ports c.args.line.now)

pub answer_in_room-requires : goal.answer_in_room-requires
answer_in_room-requires g c =
    let old = c.args.at.now.recorded.plant in
    subst (λ n. AsksWithin n c.read_line-reading.result) (sym (cut_length old c.cut_before.new.at.plant c.read_line-reading.result c.cut_before.ensures.cuts))
    (subst (AsksWithin (length old)) (sym (c.read_line-reading.ensures ∙ ap (λ n. read_line n c.args.line.now) c.count.ensures.count)) (read_line-within (length old) c.args.line.now))

pub returns-clause-path : goal.returns-clause-path
returns-clause-path g c =
    (records_path g.D.DevWrite.contents).joined c.args.at.now.recorded c.cut_before.new.at c.answer_in_room.new.at c.cut_before.ensures.path c.answer_in_room.ensures.path

pub returns-in_err-refusal-clause-path : goal.returns-in_err-refusal-clause-path
returns-in_err-refusal-clause-path g c =
    (records_path g.D.DevWrite.contents).joined c.args.at.now.recorded c.cut_before.new.at c.answer_in_room.new.at c.cut_before.ensures.path c.answer_in_room.ensures.path
