use Rattle.std.proofs.Common.{refl, rules, subst}
use Rattle.std.specs.Prelude.{All}
use Rattle.std.proofs.lemmas.List.{take_all}
use Rattle.std.proofs.lemmas.List.Elements.{All-more}
use Rattle.pon_guar.specs.Window.{WindowMap}
use Rattle.pon_state.specs.Ranges.{AreGrantsInRange}
use Rattle.pon_port.proofs.ranges.are_maps_in_range.Goals as goal

abbrev IsMapInRange : WindowMap → Type 0
IsMapInRange m = AreGrantsInRange m.grants

pub loop-map-preserved : goal.loop-map-preserved
loop-map-preserved c =
    let here : IsMapInRange c.map-item.result = search rules in
    All-more IsMapInRange c.args.maps.now c.loop-map.map-index c.map-item.result c.loop-map-test.true c.loop-map.invariant (subst IsMapInRange c.map-item.is here)

pub returns : goal.returns
returns c = (λ _. subst (All IsMapInRange) (take_all c.loop-map.map-index c.args.maps.now c.loop-map-test.false) c.loop-map.invariant, λ _. refl)
