use Rattle.std.proofs.Common.{set, rules}
use Rattle.pon_plant.specs.Plants.{IsPlant}
use Rattle.pon_plant.specs.Turning.{IsTurnFault}
use Rattle.pon_plant.proofs.Stepping.{IsPort, refused, stays_plant, told_by, unchanged}
use Rattle.pon_plant.proofs.Turning.{turned_ok}
use Rattle.pon_plant.proofs.plant.Plant.turn.Goals as goal

-- the port has this number
at : (c : goal.After-map_err) → IsPort c.self.inside.ports.items c.args.port c.from.result c.in-Some.full.now
at c = record { number = search rules; within = search rules; is = c.in-Some.ensures.value }

-- the plant has a lawful chapter at each port, before and after
still_lawful : (c : goal.After-map_err) → IsPlant (set c.self.inside.ports.items c.from.result c.turn-turned.new.self)
still_lawful c = stays_plant (at c) c.turn-turned.new.self c.self.invariant c.history-entries.ensures.lawful

pub invariant_of-self-2 : goal.invariant_of-self-2
invariant_of-self-2 c = still_lawful c

pub returns-clause-lawful : goal.returns-clause-lawful
returns-clause-lawful c = still_lawful c

pub returns-clause-ok : goal.returns-clause-ok
returns-clause-ok c =
    rw (← c.self.view_is, told_by c.turn-turned.result c.map_err.result c.map_err.ensures.cases)
    (turned_ok (at c) c.turn-turned.new.self c.turn-turned.result c.turn-turned.ensures.ok)

pub returns-clause-refused : goal.returns-clause-refused
returns-clause-refused c =
    rw (← c.self.view_is, told_by c.turn-turned.result c.map_err.result c.map_err.ensures.cases)
    (refused (at c) IsTurnFault c.turn-turned.result c.turn-turned.ensures.refused)

pub returns-clause-err : goal.returns-clause-err
returns-clause-err c =
    rw (← c.self.view_is, told_by c.turn-turned.result c.map_err.result c.map_err.ensures.cases)
    (unchanged (at c) c.turn-turned.new.self c.turn-turned.result c.turn-turned.ensures.err)
