use Rattle.std.proofs.Common.{◌≡◌}
use Rattle.pon_look.proofs.Loops.{KeepsOn}
use Rattle.pon_look.proofs.info.write_chapters.Given as goal

-- the audit goes on from whatever it began with, and no read and no write has failed
abbrev pub invariant-loop-batch : goal.invariant-loop-batch
invariant-loop-batch g l = record {
  auditing : KeepsOn l.fn.auditing (g.R.DevRead.remaining l.fn.reader.inner) l.auditing (g.R.DevRead.remaining l.reader.inner);
  none_failed : g.R.DevRead.failures l.reader.inner ≡ g.R.DevRead.failures l.fn.reader.inner;
  none_written : g.W.DevWrite.failures l.writer ≡ g.W.DevWrite.failures l.fn.writer;
}
