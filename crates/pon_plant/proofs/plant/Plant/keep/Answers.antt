use Rattle.std.proofs.Common.{set, rules}
use Rattle.std.specs.Prelude.{Err}
use Rattle.pon_history.specs.Taking.{Keeps}
use Rattle.pon_history.proofs.OneReply.{taken_lawful}
use Rattle.pon_plant.specs.Answers.{IsStepAnswer}
use Rattle.pon_plant.specs.Plants.{IsPlant}
use Rattle.pon_plant.proofs.Stepping.{IsPort, kept_ok, refused, stays_lawful, stays_plant, told_by, unchanged, was_lawful}
use Rattle.pon_plant.proofs.plant.Plant.keep.Goals as goal

-- the port is the one of the step
at : (c : goal.After-map_err) → IsPort c.self.inside.ports.items c.args.step.port c.from-place.result c.in-Some.port.now
at c = record { number = search rules; within = search rules; is = c.in-Some.ensures.value }

-- the plant has a lawful chapter at each port, before and after
still_lawful : (c : goal.After-map_err) → IsPlant (set c.self.inside.ports.items c.from-place.result c.keep.new.self)
still_lawful c =
    let was = was_lawful (at c) c.self.invariant in
    stays_plant (at c) c.keep.new.self c.self.invariant (stays_lawful (λ _. Keeps c.in-Some.port.now c.args.step.event c.keep.new.self) c.in-Some.port.now c.keep.new.self c.keep.result
    (λ _ kept. taken_lawful c.in-Some.port.now c.keep.new.self c.args.step.event kept.reply was kept.takes) was c.keep.ensures.ok c.keep.ensures.err)

pub invariant_of-self-2 : goal.invariant_of-self-2
invariant_of-self-2 c = still_lawful c

pub returns-clause-lawful : goal.returns-clause-lawful
returns-clause-lawful c = still_lawful c

pub returns-clause-ok : goal.returns-clause-ok
returns-clause-ok c = rw (← c.self.view_is, told_by c.keep.result c.map_err.result c.map_err.ensures.cases) (kept_ok c.args.step (at c) c.keep.new.self c.keep.result c.keep.ensures.ok)

pub returns-clause-refused : goal.returns-clause-refused
returns-clause-refused c =
    rw (← c.self.view_is, told_by c.keep.result c.map_err.result c.map_err.ensures.cases)
    (refused (at c) (λ o fault. IsStepAnswer o c.args.step.event (Err fault)) c.keep.result c.keep.ensures.refused)

pub returns-clause-err : goal.returns-clause-err
returns-clause-err c = rw (← c.self.view_is, told_by c.keep.result c.map_err.result c.map_err.ensures.cases) (unchanged (at c) c.keep.new.self c.keep.result c.keep.ensures.err)
