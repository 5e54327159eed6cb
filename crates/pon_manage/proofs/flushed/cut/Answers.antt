use Rattle.pon_plant.proofs.Turning.{keeps_same}
use Rattle.pon_manage.proofs.RecordedPlans.{records_kept, records_turned}
use Rattle.pon_manage.proofs.flushed.cut.Goals as goal

pub returns-in-Ok-clause-path : goal.returns-in-Ok-clause-path
returns-in-Ok-clause-path g c =
    records_turned g.D.DevWrite.contents c.args.at.now c.turn.new.self c.append-taken.new.self c.args.port c.in-Ok.chapter c.append-taken.result
    c.in-Ok.ensures.ok c.append-taken.ensures.sound c.append-taken.ensures.recorded

pub returns-in-Err-clause-path : goal.returns-in-Err-clause-path
returns-in-Err-clause-path g c =
    records_kept g.D.DevWrite.contents c.args.at.now c.turn.new.self (keeps_same c.args.at.now.plant c.turn.new.self c.in-Err.ensures.err)
