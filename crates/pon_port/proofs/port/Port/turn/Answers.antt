use Rattle.std.proofs.Common.{◌+◌, rules, subst}
use Rattle.pon_history.specs.Chapters.{Chapter}
use Rattle.pon_history.specs.Taking.{Turns}
use Rattle.pon_port.proofs.Turning.{turned, turned_port}
use Rattle.pon_port.proofs.port.Port.turn.Goals as goal

pub invariant_of-self : goal.invariant_of-self
invariant_of-self c =
    let old : Chapter = record { number = c.self.inside.number; opening = c.self.inside.opening; entries = c.self.inside.entries.items } in
    turned_port old c.self.inside.state c.replace-opening.new.dest c.replace-entries.new.dest.items c.self.inside.last c.self.inside.na.items c.self.inside.be.items c.self.invariant (search rules) (search rules)

pub returns-clause-ok : goal.returns-clause-ok
returns-clause-ok c =
    let old : Chapter = record { number = c.self.inside.number; opening = c.self.inside.opening; entries = c.self.inside.entries.items } in
    let chapter : Chapter = c.new-chapter.result in
    let new : Chapter = record { number = c.self.inside.number + 1; opening = c.replace-opening.new.dest; entries = c.replace-entries.new.dest.items } in
    subst (λ old. Turns old chapter new) c.self.view_is
    (turned old chapter c.self.inside.state c.replace-opening.new.dest c.replace-entries.new.dest.items c.self.invariant.kept (search rules) (search rules) (search rules))
