use Rattle.std.proofs.Common.{◌≡◌, ◌+◌, ◌∙◌, ap, length, subst}
use Rattle.pon_history.proofs.Legality.{replay_later}
use Rattle.pon_port.proofs.port.Port.taken.Goals as goal

pub returns : goal.returns
returns c =
    subst (λ port. c.taken_before.result ≡ port.opening.taken_before + length port.entries) c.self.view_is
    (c.taken_before.ensures ∙ ap (λ s. s.taken_before) c.self.invariant.kept.replayed ∙ (replay_later c.self.inside.opening c.self.inside.entries.items).taken_before)
