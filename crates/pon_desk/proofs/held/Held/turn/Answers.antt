use Rattle.std.proofs.Common.{◌∙◌, sym}
use Rattle.pon_desk.proofs.Turned.{same_count}
use Rattle.pon_desk.proofs.held.Held.turn.Goals as goal

pub invariant_of-self : goal.invariant_of-self
invariant_of-self g c = (c.self.invariant.0, c.self.invariant.1 ∙ sym (same_count c.self.inside.port c.turn.new.self c.turn.result c.turn.ensures.ok c.turn.ensures.err))
