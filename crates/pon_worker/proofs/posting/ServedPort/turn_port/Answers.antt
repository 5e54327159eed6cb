use Rattle.std.proofs.Common.{inl}
use Rattle.pon_worker.proofs.Passed.{passes_tried}
use Rattle.pon_worker.proofs.posting.ServedPort.turn_port.Goals as goal

pub returns-in-Ok-clause-sink : goal.returns-in-Ok-clause-sink
returns-in-Ok-clause-sink g c =
    passes_tried c.args.sink.now c.pass.new.self (inl (c.in-Ok.chapter, c.in-Ok.ensures.turned, c.pass.ensures.passes)) c.pass.ensures.cut
