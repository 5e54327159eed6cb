use Rattle.std.proofs.Common.{◌∙◌, ◌≡◌, ap, arith, not, rules}
use Rattle.std.specs.Prelude.{◌==◌}
use Rattle.pon_port.proofs.InRange.{at_same, later_begins}
use Rattle.pon_port.proofs.ranges.begins_onu.Goals as goal

pub returns : goal.returns
returns c = λ granted here.
    let gs = c.args.grants.now in
    let k = c.args.place in
    let before = c.index-grants-place.result in
    let at = c.index-grants-place-2.result in
    let differs : c.ne.result ≡ not (before.onu == at.onu) = search rules in
    differs ∙ ap (λ h. not (before.onu == h.onu)) (at_same gs k at granted c.requires.within c.index-grants-place-2.is here)
    ∙ later_begins gs k before granted c.requires.order (omega (arith, c.if-place-eq0.false)) c.requires.within c.index-grants-place.is here
