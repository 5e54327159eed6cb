use Rattle.pon_desk.proofs.Settled.{earlier_of_seat}
use Rattle.pon_desk.proofs.laws.places_of_a_seat_rise.Goals as goal

pub returns : goal.returns
returns c = earlier_of_seat
