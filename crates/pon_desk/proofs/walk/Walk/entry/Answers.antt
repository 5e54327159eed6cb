use Rattle.std.proofs.Common.{◌≤◌, length, sym, ◌∙◌, arith}
use Rattle.pon_desk.specs.Walks.{left_after}
use Rattle.pon_desk.proofs.Walks.{rest_left}
use Rattle.pon_desk.proofs.walk.Walk.entry.Goals as goal

pub loop-self-preserved : goal.loop-self-preserved
loop-self-preserved c =
    let past : length c.loop-self.self.entries.now ≤ c.loop-self.self.index = omega arith in
    c.in-Some.ensures.left ∙ sym (rest_left c.loop-self.self.number c.loop-self.self.index c.loop-self.self.entries.now (left_after c.loop-self.self) past) ∙ c.loop-self.invariant

pub returns-in-None-clause-entry : goal.returns-in-None-clause-entry
returns-in-None-clause-entry c =
    let past : length c.loop-self.self.entries.now ≤ c.loop-self.self.index = omega arith in
    rest_left c.loop-self.self.number c.loop-self.self.index c.loop-self.self.entries.now (left_after c.loop-self.self) past ∙ c.in-None.ensures.left
