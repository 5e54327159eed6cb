use Rattle.std.proofs.Common.{arith, rules, subst, sym}
use Rattle.pon_guar.specs.Window.{AreConsecutive}
use Rattle.pon_guar.proofs.RestoredParts.{leads_to}
use Rattle.pon_guar.proofs.parts.restore_window.Goals as goal

pub restore_map-requires-clause-next : goal.restore_map-requires-clause-next
restore_map-requires-clause-next c =
    subst (AreConsecutive c.map-item.result.frame) (sym c.loop-map.invariant)
    (leads_to c.args.maps.now c.loop-map.map-index c.map-item.result (omega arith) (search rules) c.requires.frames)
