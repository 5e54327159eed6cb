use Rattle.std.proofs.Common.{arith}
use Rattle.pon_guar.proofs.RestoredParts.{all_done, found}
use Rattle.pon_audit.specs.Openings.{MapIsOwned}
use Rattle.pon_audit.proofs.openings.are_owned_maps.Goals as goal

pub returns : goal.returns
returns c = found (all_done (MapIsOwned c.args.rows.now c.args.loads.now.accounts) c.args.window.now c.loop-map.map-index (omega arith) c.loop-map.invariant)
