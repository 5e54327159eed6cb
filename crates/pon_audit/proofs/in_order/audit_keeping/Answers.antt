use Rattle.std.proofs.Common.{subst}
use Rattle.std.specs.Prelude.{Some}
use Rattle.pon_audit.specs.Auditing.{GoesOn}
use Rattle.pon_audit.proofs.in_order.audit_keeping.Goals as goal

pub returns-in-Some : goal.returns-in-Some
returns-in-Some c = subst (GoesOn (Some c.args.bytes.now) c.next_in_order.new.self (Some c.next_in_order.new.reader.inner.now)) c.in-Some.is (c.in_ok-verdict.ensures.judged (Some c.args.bytes.now) c.loop-batch.invariant)
