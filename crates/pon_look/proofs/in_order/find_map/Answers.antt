use Rattle.std.proofs.Common.{subst}
use Rattle.std.specs.Prelude.{Some}
use Rattle.pon_audit.specs.Auditing.{GoesOn}
use Rattle.pon_look.proofs.in_order.find_map.Goals as goal

pub returns-in-Some-clause-verdict : goal.returns-in-Some-clause-verdict
returns-in-Some-clause-verdict c = subst (GoesOn (Some c.args.recording.now) c.next_in_order.new.self (Some c.next_in_order.new.reader.inner.now)) c.in-Some.is (c.in_ok-batch.ensures.judged (Some c.args.recording.now) c.loop-batch.invariant.auditing)
