use Rattle.pon_port.proofs.EachReply.{each_follows, each_taken}
use Rattle.pon_port.proofs.laws.each_accepted_event_has_a_reply.Goals as goal

pub returns : goal.returns
returns c = record {
  reply = λ d v l range accepted. each_follows d v l range accepted;
  next = λ d v l range accepted. each_taken d v l range accepted;
}
