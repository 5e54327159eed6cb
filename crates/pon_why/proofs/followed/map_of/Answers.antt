use Rattle.std.proofs.Common.{◌∙◌, sym}
use Rattle.std.proofs.Math.Numerals.{add-one}
use Rattle.pon_why.proofs.Following.{passed_over}
use Rattle.pon_why.proofs.followed.map_of.Goals as goal

pub loop-index-preserved : goal.loop-index-preserved
loop-index-preserved c =
    rw add-one (passed_over c.args.alloc_id c.args.frame c.loop-index.index c.args.rows.now c.args.structures.now c.index-rows-index.result c.loop-index-test.true c.index-rows-index.is (sym c.eq.ensures ∙ c.if-eq.false) ∙ c.loop-index.invariant)
