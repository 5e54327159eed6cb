use Rattle.std.specs.Prelude.{Some}
use Rattle.pon_audit.specs.Auditing.{IsAuditing}
use Rattle.pon_look.proofs.in_order.write_chapters.Given as goal

-- the audit goes on
abbrev pub invariant-loop-batch : goal.invariant-loop-batch
invariant-loop-batch g l = IsAuditing (Some l.fn.recording) l.auditing (Some l.reader.inner.inner.now)
