use Rattle.std.proofs.Common.{◌≡◌, length}
use Rattle.pon_text.specs.Progress.{Reached}
use Rattle.pon_text.proofs.session.answer_piece.Given as goal

-- the progress in the piece, the path to the state, and that the writer has not failed
abbrev pub invariant-lines : goal.invariant-lines
invariant-lines g l = record {
  reached : Reached g.A.Answers.gives l.initial.state l.initial.line.items l.state l.line.items l.piece l.rest l.replies.items (g.W.DevWrite.contents l.initial.writer) (g.W.DevWrite.contents l.writer);
  path : g.A.Answers.path l.initial.state l.state;
  none_failed : g.W.DevWrite.failures l.writer ≡ g.W.DevWrite.failures l.initial.writer;
}

abbrev pub decreases-lines : goal.decreases-lines
decreases-lines g l = length l.rest
