use Rattle.std.proofs.Common.{ap, set, ◌∙◌}
use Rattle.pon_c.specs.Codecs.{structure_of}
use Rattle.pon_c.proofs.Written.{write_over_more}
use Rattle.pon_c.proofs.codecs.put_structures.Goals as goal

pub loop-place-preserved : goal.loop-place-preserved
loop-place-preserved c =
    ap (λ v. set c.loop-place.rows c.loop-place.place v) c.structure_of.ensures
    ∙ write_over_more structure_of c.args.structures.now c.loop-place.rows c.args.rows.now c.loop-place.place c.index-structures-place.result c.loop-place-test.true c.requires c.loop-place.invariant c.index-structures-place.is
