use Rattle.std.proofs.Common.{subst, sym}
use Rattle.pon_lists.specs.Order.{AreRising}
use Rattle.pon_guar.proofs.Polls.{reporters_rise}
use Rattle.pon_guar.proofs.map.WindowMap.has_reported.Goals as goal

pub is_among-requires : goal.is_among-requires
is_among-requires c = subst AreRising (sym c.reported.ensures) (reporters_rise c.args.self.now c.requires)
