use Rattle.std.proofs.Common.{subst}
use Rattle.std.specs.Prelude.{Some}
use Rattle.pon_audit.specs.Auditing.{GoesOn}
use Rattle.pon_look.proofs.in_order.sum_up.Goals as goal

pub place-requires-clause-read : goal.place-requires-clause-read
place-requires-clause-read c =
    let start = Some c.args.recording.now in
    (start, Some c.read.new.reader.inner.now, c.in_ok-batch.ensures.batch start c.loop-batch.invariant)

pub returns-in-Some : goal.returns-in-Some
returns-in-Some c =
    let start = Some c.args.recording.now in
    let left = Some c.read.new.reader.inner.now in
    subst (GoesOn start c.place.new.self left) c.in-Some.is (c.in_ok-verdict.ensures.judged start left (c.in_ok-batch.ensures.batch start c.loop-batch.invariant))

pub loop-batch-preserved : goal.loop-batch-preserved
loop-batch-preserved c =
    let start = Some c.args.recording.now in
    let left = Some c.read.new.reader.inner.now in
    subst (GoesOn start c.place.new.self left) c.in-None.is (c.in_ok-verdict.ensures.judged start left (c.in_ok-batch.ensures.batch start c.loop-batch.invariant))
