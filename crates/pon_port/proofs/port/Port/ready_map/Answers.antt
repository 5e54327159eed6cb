use Rattle.std.proofs.Common.{rules, subst}
use Rattle.pon_history.specs.Chapters.{present_state}
use Rattle.pon_port.specs.Ports.{IsReady}
use Rattle.pon_port.proofs.port.Port.ready_map.Goals as goal

pub returns-clause-ready : goal.returns-clause-ready
returns-clause-ready c =
    let next = c.in_ok-next.next in
    let ready : IsReady c.self.inside.state next = search (rules, c.in_ok-next.ensures) in
    subst (λ port. IsReady (present_state port) next) c.self.view_is (subst (λ s. IsReady s next) c.self.invariant.kept.replayed ready)
