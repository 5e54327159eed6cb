use Rattle.pon_run.proofs.SplitSeats.{split_back}
use Rattle.pon_run.proofs.seats.split_seats.Goals as goal

pub returns : goal.returns
returns g c =
    split_back c.args.seats.now.items c.pop.new.self.items c.pop-2.new.self.items c.split_off.new.self.items c.in_ok-control.control.items
    c.unwrap-operator.result c.unwrap-rows.result c.pop.result c.pop-2.result c.min.result
    c.pop.ensures.items c.unwrap-operator.ensures c.pop-2.ensures.items c.unwrap-rows.ensures
    c.in_ok-control.ensures.items c.in_ok-control.ensures.tail
