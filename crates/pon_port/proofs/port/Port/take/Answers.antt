use Rattle.pon_port.proofs.port.Port.take.Goals as goal

pub keep_map-requires-clause-ready : goal.keep_map-requires-clause-ready
keep_map-requires-clause-ready c = rw c.ready_map.ensures.same c.in_ok-next.ensures.ready
