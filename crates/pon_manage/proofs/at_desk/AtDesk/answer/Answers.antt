use Rattle.pon_manage.proofs.DeskPosts.{at_port}
use Rattle.pon_manage.proofs.at_desk.AtDesk.answer.Goals as goal

pub returns-in-Asks-clause-ok : goal.returns-in-Asks-clause-ok
returns-in-Asks-clause-ok g c =
    rw c.in-Asks.is
    (at_port c.port_no-port.result c.in-Asks.port c.in-Asks.event c.args.seat.now c.answer_event.new.seat c.args.replies.now.items c.answer_event.new.replies.items c.answer_event.result c.port_no-port.ensures c.answer_event.ensures.ok)
