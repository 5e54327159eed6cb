use Rattle.std.proofs.Common.{sym, ◌∙◌}
use Rattle.pon_desk.specs.Walks.{left_after}
use Rattle.pon_desk.proofs.Walks.{next_left}
use Rattle.pon_desk.proofs.walk.Walk.is_at_end.Goals as goal

pub returns : goal.returns
returns c = λ e.
    let w = c.entry.new.self in
    let here = next_left w.number w.index w.entries.now (left_after w) c.in-Some._entry.now c.in-Some.ensures.entry in
    let none = sym here ∙ c.entry.ensures.same ∙ e in
    cc none
