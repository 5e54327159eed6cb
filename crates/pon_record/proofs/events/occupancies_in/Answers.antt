use Rattle.std.proofs.Common.{◌∷◌, [], arith}
use Rattle.std.proofs.lemmas.List.{length-append}
use Rattle.pon_record.specs.Format.{read_times}
use Rattle.pon_record.specs.Events.{occupancy}
use Rattle.pon_record.proofs.Loop.{goes_on}
use Rattle.pon_record.proofs.events.occupancies_in.Goals as goal

pub loop-preserved : goal.loop-preserved
loop-preserved c = rw c.push.ensures record {
  read = goes_on occupancy c.loop.occupancies c.args.count c.loop.counter c.loop.cursor c.in_ok-occupancy.occupancy c.occupancy.new.self (read_times occupancy c.args.count c.args.cursor.now) c.loop-test.true c.in_ok-occupancy.ensures c.loop.invariant.read;
  room = omega (arith, length-append c.loop.occupancies (c.in_ok-occupancy.occupancy ∷ []), c.loop.invariant.room);
}
