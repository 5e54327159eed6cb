use Rattle.std.proofs.Common.{◌≡◌}
use Rattle.pon_look.proofs.Loops.{KeepsOn}
use Rattle.pon_look.proofs.dump.write_chapters.Given as goal

-- the audit goes on from whatever it began with, and no read and no write has failed
abbrev pub invariant-loop-batch : goal.invariant-loop-batch
invariant-loop-batch g l = record {
  auditing : KeepsOn l.fn.auditing (g.R.DevRead.remaining l.fn.reader) l.auditing (g.R.DevRead.remaining l.reader);
  none_failed : g.R.DevRead.failures l.reader ≡ g.R.DevRead.failures l.fn.reader;
  none_written : g.W.DevWrite.failures l.writer ≡ g.W.DevWrite.failures l.fn.writer;
}
