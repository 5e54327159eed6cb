use Rattle.std.proofs.Common.{subst}
use Rattle.pon_audit.specs.Auditing.{GoesOn, IsAuditing}
use Rattle.pon_audit.proofs.auditing.audit_keeping.Goals as goal

pub loop-batch-init : goal.loop-batch-init
loop-batch-init g c =
    let begins : IsAuditing (g.R.DevRead.remaining c.args.reader.now) c.in-Ok.auditing (g.R.DevRead.remaining c.open.new.reader) = rw c.in-Ok.is at c.in_ok-auditing.ensures.begins in
    record { auditing = begins; none_failed = c.in_ok-auditing.ensures.failures }

pub returns-in-Some-clause-verdict : goal.returns-in-Some-clause-verdict
returns-in-Some-clause-verdict g c =
    let start = g.R.DevRead.remaining c.args.reader.now in
    subst (GoesOn start c.next.new.self (g.R.DevRead.remaining c.next.new.reader)) c.in-Some.is (c.in_ok-verdict.ensures.judged start c.loop-batch.invariant.auditing)
