use Rattle.pon_manage.proofs.RecordedPlans.{records_then}
use Rattle.pon_manage.proofs.recorded.answer_in_room.Goals as goal

pub returns-clause-path : goal.returns-clause-path
returns-clause-path g c =
    records_then g.D.DevWrite.contents c.args.at.now c.make_room_for.new.at c.answer.new.plant c.make_room_for.ensures.path c.answer.ensures.path
