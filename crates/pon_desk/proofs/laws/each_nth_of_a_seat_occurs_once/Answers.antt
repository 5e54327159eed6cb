use Rattle.pon_desk.proofs.SeatOrder.{nth_below, only_post}
use Rattle.pon_desk.proofs.laws.each_nth_of_a_seat_occurs_once.Goals as goal

pub returns-clause-once : goal.returns-clause-once
returns-clause-once c = λ h port rs settled. only_post rs (λ k r at. (settled.each k r at).nth)

pub returns-clause-no_other : goal.returns-clause-no_other
returns-clause-no_other c = λ h port rs settled. nth_below rs (λ k r at. (settled.each k r at).nth)
