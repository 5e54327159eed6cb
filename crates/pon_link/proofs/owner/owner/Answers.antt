use Rattle.pon_link.specs.Units.{owns}
use Rattle.pon_link.proofs.Owners.{passes_there, none_passes}
use Rattle.pon_link.proofs.owner.owner.Goals as goal

pub returns-clause-owns : goal.returns-clause-owns
returns-clause-owns c = passes_there (λ unit. owns unit.queues c.args.alloc_id) c.args.units.now c.first_owner.result c.first_owner.ensures

pub returns-clause-none : goal.returns-clause-none
returns-clause-none c = none_passes (λ unit. owns unit.queues c.args.alloc_id) c.args.units.now c.first_owner.result c.first_owner.ensures
