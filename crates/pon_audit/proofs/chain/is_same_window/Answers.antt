use Rattle.std.proofs.Common.{◌≡◌, length, rules, arith}
use Rattle.pon_audit.proofs.SameStates.{one_more_same}
use Rattle.pon_audit.proofs.chain.is_same_window.Goals as goal

pub loop-place-preserved : goal.loop-place-preserved
loop-place-preserved c =
    let same : c.index-raws-place.result ≡ c.index-maps-place.result = search rules in
    let long : length c.args.raws.now ≡ length c.args.maps.now = search rules in
    one_more_same (λ m. m) c.args.raws.now c.args.maps.now c.loop-place.place c.index-raws-place.result c.index-maps-place.result (omega arith) (omega (arith, long))
    c.index-raws-place.is c.index-maps-place.is same c.loop-place.invariant
