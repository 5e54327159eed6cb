use Rattle.std.proofs.Common.{◌≡◌, ◌-◌, length}
use Rattle.pon_record.specs.Format.{read_times}
use Rattle.pon_record.specs.Events.{occupancy}
use Rattle.pon_record.proofs.Loop.{with_front}
use Rattle.pon_record.proofs.events.occupancies_in.Given as goal

abbrev pub invariant-loop : goal.invariant-loop
invariant-loop l = record {
  read : with_front l.occupancies (read_times occupancy (l.count - l.counter) l.cursor) ≡ read_times occupancy l.count l.fn.cursor;
  room : length l.occupancies ≡ l.counter;
}
