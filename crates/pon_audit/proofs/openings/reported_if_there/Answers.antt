use Rattle.std.proofs.Common.{◌≡◌, arith, rules}
use Rattle.std.specs.Prelude.{Contains}
use Rattle.pon_guar.specs.Window.{WindowMap}
use Rattle.pon_guar.proofs.RestoredParts.{all_done, all_more, found}
use Rattle.pon_audit.proofs.openings.reported_if_there.Goals as goal

pub loop-map-preserved : goal.loop-map-preserved
loop-map-preserved c =
    all_more (λ (m : WindowMap). m.frame ≡ c.args.frame → Contains m.reported c.args.onu) c.args.window.now c.loop-map.map-index c.map-item.result (omega arith) (search rules)
    c.loop-map.invariant (c.is_reported.ensures.0 (search rules))

pub returns : goal.returns
returns c = found (all_done (λ (m : WindowMap). m.frame ≡ c.args.frame → Contains m.reported c.args.onu) c.args.window.now c.loop-map.map-index (omega arith) c.loop-map.invariant)
