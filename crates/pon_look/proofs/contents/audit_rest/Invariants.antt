use Rattle.std.proofs.Common.{◌≡◌}
use Rattle.pon_look.proofs.Loops.{KeepsOn}
use Rattle.pon_look.proofs.contents.audit_rest.Given as goal

-- the audit goes on from whatever it began with, and no read has failed
abbrev pub invariant-loop-batch : goal.invariant-loop-batch
invariant-loop-batch g l = record {
  auditing : KeepsOn l.fn.auditing (g.R.DevRead.remaining l.fn.reader) l.auditing (g.R.DevRead.remaining l.reader);
  none_failed : g.R.DevRead.failures l.reader ≡ g.R.DevRead.failures l.fn.reader;
}
