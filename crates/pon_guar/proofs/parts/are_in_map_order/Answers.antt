use Rattle.std.proofs.Common.{◌≡◌, false, arith, rules}
use Rattle.std.proofs.lemmas.Bool.{iff_false}
use Rattle.pon_units.specs.Granted.{ComesBefore}
use Rattle.pon_guar.proofs.RestoredParts.{found, in_order_done, in_order_more, in_order_one, map_order_trans, neighbours, not_found}
use Rattle.pon_guar.proofs.parts.are_in_map_order.Goals as goal

pub loop-place-init : goal.loop-place-init
loop-place-init c = in_order_one ComesBefore c.args.grants.now

pub returns-then-not-comes_before : goal.returns-then-not-comes_before
returns-then-not-comes_before c =
    let other : c.comes_before.result ≡ false = search rules in
    not_found (λ h. iff_false c.comes_before.ensures other (neighbours ComesBefore c.args.grants.now c.loop-place.place c.index-grants-place.result c.index-grants-place-in-loop-place.result
    (omega arith) (omega arith) (search rules) (search rules) h))

pub loop-place-preserved : goal.loop-place-preserved
loop-place-preserved c =
    in_order_more ComesBefore map_order_trans c.args.grants.now c.loop-place.place c.index-grants-place.result c.index-grants-place-in-loop-place.result
    (omega arith) (omega arith) (search rules) (search rules) c.loop-place.invariant (c.comes_before.ensures.0 (search rules))

pub returns : goal.returns
returns c = found (in_order_done ComesBefore c.args.grants.now c.loop-place.place (omega arith) c.loop-place.invariant)
