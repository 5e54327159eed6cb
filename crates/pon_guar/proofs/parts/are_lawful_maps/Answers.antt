use Rattle.std.proofs.Common.{◌≡◌, false, arith, rules}
use Rattle.std.proofs.lemmas.Bool.{iff_false}
use Rattle.pon_guar.specs.Window.{IsLawfulMap}
use Rattle.pon_guar.proofs.RestoredParts.{all_done, all_more, found, not_all, not_found}
use Rattle.pon_guar.proofs.parts.are_lawful_maps.Goals as goal

pub returns-then-not-is_lawful_map : goal.returns-then-not-is_lawful_map
returns-then-not-is_lawful_map c =
    let other : c.is_lawful_map.result ≡ false = search rules in
    not_found (not_all IsLawfulMap c.args.maps.now c.loop-map.map-index c.map-item.result (omega arith) (search rules) (iff_false c.is_lawful_map.ensures other))

pub loop-map-preserved : goal.loop-map-preserved
loop-map-preserved c = all_more IsLawfulMap c.args.maps.now c.loop-map.map-index c.map-item.result (omega arith) (search rules) c.loop-map.invariant (c.is_lawful_map.ensures.0 (search rules))

pub returns : goal.returns
returns c = found (all_done IsLawfulMap c.args.maps.now c.loop-map.map-index (omega arith) c.loop-map.invariant)
