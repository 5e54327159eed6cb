use Rattle.std.proofs.Common.{rules, subst}
use Rattle.pon_audit.specs.Auditing.{GoesOn, IsAuditing}
use Rattle.pon_look.proofs.summing.sum_up.Goals as goal

pub loop-batch-init : goal.loop-batch-init
loop-batch-init g c =
    let begins : IsAuditing (g.R.DevRead.remaining c.args.reader.now) c.in-Ok.auditing (g.R.DevRead.remaining c.open.new.reader) = rw c.in-Ok.is at c.in_ok-auditing.ensures.begins in
    record { auditing = begins; none_failed = c.in_ok-auditing.ensures.failures }

pub place-requires-clause-read : goal.place-requires-clause-read
place-requires-clause-read g c =
    let start = g.R.DevRead.remaining c.args.reader.now in
    (start, g.R.DevRead.remaining c.read.new.reader, c.in_ok-batch.ensures.batch start c.loop-batch.invariant.auditing)

pub returns-in-Some-clause-verdict : goal.returns-in-Some-clause-verdict
returns-in-Some-clause-verdict g c =
    let start = g.R.DevRead.remaining c.args.reader.now in
    let left = g.R.DevRead.remaining c.read.new.reader in
    subst (GoesOn start c.place.new.self left) c.in-Some.is (c.in_ok-verdict.ensures.judged start left (c.in_ok-batch.ensures.batch start c.loop-batch.invariant.auditing))

pub loop-batch-preserved : goal.loop-batch-preserved
loop-batch-preserved g c =
    let start = g.R.DevRead.remaining c.args.reader.now in
    let left = g.R.DevRead.remaining c.read.new.reader in
    record {
      auditing = subst (GoesOn start c.place.new.self left) c.in-None.is (c.in_ok-verdict.ensures.judged start left (c.in_ok-batch.ensures.batch start c.loop-batch.invariant.auditing));
      none_failed = search rules;
    }
