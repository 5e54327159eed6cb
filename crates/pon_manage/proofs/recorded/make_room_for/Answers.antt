use Rattle.pon_plant.proofs.Turning.{keeps_here}
use Rattle.pon_manage.proofs.RecordedPlans.{no_event, records_kept}
use Rattle.pon_manage.proofs.recorded.make_room_for.Goals as goal

pub returns-in_default : goal.returns-in_default
returns-in_default g c = record {
  ok = no_event c.args.at.now.plant c.args.reading.now c.in_default.not-Asks;
  path = records_kept g.D.DevWrite.contents c.args.at.now c.args.at.now.plant (keeps_here c.args.at.now.plant);
}
