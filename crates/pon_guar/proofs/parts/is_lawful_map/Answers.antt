use Rattle.std.proofs.Common.{◌≡◌, false, rules, subst, sym}
use Rattle.std.proofs.lemmas.Bool.{iff_false}
use Rattle.pon_lists.specs.Order.{AreRising}
use Rattle.pon_units.specs.Granted.{AreInMapOrder}
use Rattle.pon_guar.specs.Window.{IsLawfulMap, WindowMap}
use Rattle.pon_guar.proofs.Polls.{reporters_rise}
use Rattle.pon_guar.proofs.RestoredParts.{lawful_map, not_found, polled_if_lawful}
use Rattle.pon_guar.proofs.parts.is_lawful_map.Goals as goal

pub returns-then-not-are_in_map_order : goal.returns-then-not-are_in_map_order
returns-then-not-are_in_map_order c =
    let other : c.are_in_map_order.result ≡ false = search rules in
    not_found (λ l. let k : IsLawfulMap _ = subst IsLawfulMap (sym c.map.view_is) l in iff_false c.are_in_map_order.ensures other k.rising)

pub returns-then-not-are_rising : goal.returns-then-not-are_rising
returns-then-not-are_rising c =
    let other : c.are_rising.result ≡ false = search rules in
    not_found (λ l. iff_false c.are_rising.ensures other (reporters_rise _ (subst IsLawfulMap (sym c.map.view_is) l)))

pub returns : goal.returns
returns c =
    let inside : WindowMap = record { frame = c.map.inside.frame; grants = c.map.inside.grants.now; reported = c.map.inside.reported.now } in
    let order : AreInMapOrder inside.grants = c.are_in_map_order.ensures.0 (search rules) in
    let rise : AreRising inside.reported = c.are_rising.ensures.0 (search rules) in (
      λ t. subst IsLawfulMap c.map.view_is (lawful_map inside order rise (c.are_polled.ensures.0 t)),
      λ l. c.are_polled.ensures.1 (polled_if_lawful inside (subst IsLawfulMap (sym c.map.view_is) l)),
    )
