use Rattle.std.proofs.Common.{set, rules}
use Rattle.pon_history.specs.Taking.{Takes}
use Rattle.pon_history.proofs.OneReply.{taken_lawful}
use Rattle.pon_plant.specs.Plants.{IsPlant}
use Rattle.pon_plant.proofs.Stepping.{IsPort, asked, left, stays_lawful, stays_plant, told_by, was_lawful}
use Rattle.pon_plant.proofs.plant.Plant.step.Goals as goal

-- the port is the one of the step
at : (c : goal.After-map_err) → IsPort c.self.inside.ports.items c.args.step.port c.from.result c.in-Some.port.now
at c = record { number = search rules; within = search rules; is = c.in-Some.ensures.value }

-- the plant has a lawful chapter at each port, before and after
still_lawful : (c : goal.After-map_err) → IsPlant (set c.self.inside.ports.items c.from.result c.take.new.self)
still_lawful c =
    let was = was_lawful (at c) c.self.invariant in
    stays_plant (at c) c.take.new.self c.self.invariant (stays_lawful (λ reply. Takes c.in-Some.port.now c.args.step.event reply c.take.new.self) c.in-Some.port.now c.take.new.self c.take.result
    (λ reply taken. taken_lawful c.in-Some.port.now c.take.new.self c.args.step.event reply was taken) was c.take.ensures.ok c.take.ensures.err)

pub invariant_of-self-2 : goal.invariant_of-self-2
invariant_of-self-2 c = still_lawful c

pub returns-clause-lawful : goal.returns-clause-lawful
returns-clause-lawful c = still_lawful c

pub returns-clause-answer : goal.returns-clause-answer
returns-clause-answer c =
    rw (← c.self.view_is, told_by c.take.result c.map_err.result c.map_err.ensures.cases)
    (asked c.args.step (at c) c.take.new.self c.take.result c.take.ensures.ok c.take.ensures.fair c.take.ensures.refused)

pub returns-clause-plant : goal.returns-clause-plant
returns-clause-plant c =
    rw (← c.self.view_is, told_by c.take.result c.map_err.result c.map_err.ensures.cases)
    (left c.args.step (at c) c.take.new.self c.take.result c.take.ensures.ok c.take.ensures.err)
