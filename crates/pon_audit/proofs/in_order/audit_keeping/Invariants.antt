use Rattle.std.specs.Prelude.{Some}
use Rattle.pon_audit.specs.Auditing.{IsAuditing}
use Rattle.pon_audit.proofs.in_order.audit_keeping.Given as goal

-- the audit goes on
abbrev pub invariant-loop-batch : goal.invariant-loop-batch
invariant-loop-batch l = IsAuditing (Some l.fn.bytes) l.auditing (Some l.reader.inner.now)
