use Rattle.std.proofs.Common.{◌≡◌}
use Rattle.pon_audit.specs.Auditing.{IsAuditing}
use Rattle.pon_audit.proofs.auditing.audit_keeping.Given as goal

-- the audit goes on, and no read has failed
abbrev pub invariant-loop-batch : goal.invariant-loop-batch
invariant-loop-batch g l = record {
  auditing : IsAuditing (g.R.DevRead.remaining l.fn.reader) l.auditing (g.R.DevRead.remaining l.reader);
  none_failed : g.R.DevRead.failures l.reader ≡ g.R.DevRead.failures l.fn.reader;
}
