use Rattle.std.proofs.Common.{sym}
use Rattle.std.proofs.lemmas.List.Folds.{list_any_none}
use Rattle.pon_link.specs.Units.{owns}
use Rattle.pon_link.proofs.Grown.{any_at}
use Rattle.pon_link.proofs.growing.is_owned.Goals as goal

pub returns-in-Some : goal.returns-in-Some
returns-in-Some c = sym (any_at (λ unit. owns unit.queues c.args.alloc_id) c.args.units.now c.in-Some.place c.in-Some.ensures.within c.in-Some.ensures.owns)

pub returns-in-None : goal.returns-in-None
returns-in-None c = sym (list_any_none (λ unit. owns unit.queues c.args.alloc_id) c.args.units.now c.in-None.ensures.none)
