use Rattle.std.proofs.Common.{◌≡◌, true, arith, rules, subst, sym}
use Rattle.std.specs.Prelude.{◌↔◌}
use Rattle.pon_guar.proofs.RestoredParts.{all_done, all_more, found}
use Rattle.pon_audit.specs.Judging.{IsKeptEnd, OpensAt}
use Rattle.pon_audit.proofs.chain.is_chained.Goals as goal

pub opens_at-requires-clause-end : goal.opens_at-requires-clause-end
opens_at-requires-clause-end c = subst IsKeptEnd (sym c.end-item.is) (c.requires.ends c.loop-end.end-index c.end-item.result (omega arith))

pub loop-end-preserved : goal.loop-end-preserved
loop-end-preserved c =
    let yes : c.opens_at.result ≡ true = search rules in
    let tells : (c.opens_at.result ≡ true) ↔ OpensAt c.args.chapter.now c.end-item.result = c.opens_at.ensures in
    all_more (OpensAt c.args.chapter.now) c.args.ends.now c.loop-end.end-index c.end-item.result (omega arith) c.end-item.is c.loop-end.invariant (tells.0 yes)

pub returns : goal.returns
returns c = found (all_done (OpensAt c.args.chapter.now) c.args.ends.now c.loop-end.end-index (omega arith) c.loop-end.invariant)
