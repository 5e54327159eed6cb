use Rattle.std.specs.Prelude.{Err}
use Rattle.pon_text.proofs.Continuing.{reach_written, reached_all, sends}
use Rattle.pon_text.proofs.session.print_piece.Goals as goal

pub returns-in-Ok-clause-text : goal.returns-in-Ok-clause-text
returns-in-Ok-clause-text g c =
    sends (reached_all c.in-Ok.ensures.text) c.answer_piece.new.state c.answer_piece.new.line.items (g.W.DevWrite.contents c.send.new.writer) c.send.result (λ _. c.in-Ok.ensures.text) c.send.ensures.text

pub returns-in-Ok-send-clause-text : goal.returns-in-Ok-send-clause-text
returns-in-Ok-send-clause-text g c =
    let stops = rw c.in-Err-Memory.field-0-is at c.in-Err-Memory.ensures.text in
    reach_written stops.reached _ c.in-Ok-send.ensures.text

pub returns-in-Err-send-clause-text : goal.returns-in-Err-send-clause-text
returns-in-Err-send-clause-text g c =
    let stops = rw c.in-Err-Memory.field-0-is at c.in-Err-Memory.ensures.text in
    sends stops.reached c.answer_piece.new.state c.answer_piece.new.line.items _ (Err c.in-Err-send.fault) (λ e. absurd (cc)) c.in-Err-send.ensures.text
