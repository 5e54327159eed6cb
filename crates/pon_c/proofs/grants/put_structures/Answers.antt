use Rattle.std.proofs.Common.{ap, set, ◌∙◌}
use Rattle.pon_c.specs.Grants.{grant_of}
use Rattle.pon_c.proofs.Written.{write_over_more}
use Rattle.pon_c.proofs.grants.put_structures.Goals as goal

pub loop-place-preserved : goal.loop-place-preserved
loop-place-preserved c =
    ap (λ v. set c.loop-place.grants c.loop-place.place v) c.grant_of.ensures
    ∙ write_over_more grant_of c.args.structures.now c.loop-place.grants c.args.grants.now c.loop-place.place c.index-structures-place.result c.loop-place-test.true c.requires c.loop-place.invariant c.index-structures-place.is
