use Rattle.pon_guar.proofs.KeptSums.{lawful_all}
use Rattle.pon_guar.proofs.window.prepare_next.Goals as goal

pub fill_sums-requires : goal.fill_sums-requires
fill_sums-requires c = rw c.deref.ensures.value (lawful_all c.args.past c.args.maps.now.items c.args.sums.now.items c.requires)
