use Rattle.std.proofs.Common.{◌≡◌, []}
use Rattle.pon_device.proofs.ReadCounts.{AfterReads}
use Rattle.pon_text.proofs.Streaming.{Progress}
use Rattle.pon_text.proofs.session.answer_reads.Given as goal

-- the progress of the reading: all text is written, and no device has failed
abbrev pub invariant-loop-turn : goal.invariant-loop-turn
invariant-loop-turn g l = record {
  progress : Progress g.A.Answers.gives l.initial.state (g.R.DevRead.remaining l.initial.reader) (g.R.DevRead.remaining l.reader) (g.W.DevWrite.contents l.initial.writer) (g.W.DevWrite.contents l.writer) l.state l.line.items;
  reads : AfterReads l._turn (g.R.DevRead.calls l.initial.reader) (g.R.DevRead.calls l.reader);
  path : g.A.Answers.path l.initial.state l.state;
  none_gathered : l.replies.items ≡ [];
  none_failed : g.R.DevRead.failures l.reader ≡ g.R.DevRead.failures l.initial.reader;
  all_written : g.W.DevWrite.failures l.writer ≡ g.W.DevWrite.failures l.initial.writer;
}
