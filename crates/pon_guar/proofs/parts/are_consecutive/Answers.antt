use Rattle.std.proofs.Common.{◌≡◌, false, arith, rules}
use Rattle.std.proofs.lemmas.Bool.{iff_false}
use Rattle.pon_guar.proofs.RestoredParts.{consecutive, count_more, count_one, follow, found, not_found}
use Rattle.pon_guar.proofs.parts.are_consecutive.Goals as goal

pub loop-place-init : goal.loop-place-init
loop-place-init c = count_one c.args.maps.now

pub returns-then-not-follows : goal.returns-then-not-follows
returns-then-not-follows c =
    let other : c.follows.result ≡ false = search rules in
    not_found (λ h. iff_false c.follows.ensures other (follow c.args.maps.now c.loop-place.place c.index-maps-place.result c.index-maps-place-in-loop-place.result (omega arith) (omega arith) (search rules) (search rules) h))

pub loop-place-preserved : goal.loop-place-preserved
loop-place-preserved c =
    count_more c.args.maps.now c.loop-place.place c.index-maps-place.result c.index-maps-place-in-loop-place.result (omega arith) (omega arith) (search rules) (search rules) (c.follows.ensures.0 (search rules)) c.loop-place.invariant

pub returns : goal.returns
returns c = found (consecutive c.args.maps.now c.loop-place.place (omega arith) c.loop-place.invariant)
