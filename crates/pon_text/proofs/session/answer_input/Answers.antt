use Rattle.pon_text.proofs.Streaming.{not_flushed}
use Rattle.pon_text.proofs.session.answer_input.Goals as goal

pub returns-in-Err-flush-clause-text : goal.returns-in-Err-flush-clause-text
returns-in-Err-flush-clause-text g c = not_flushed g.A.Answers.gives c.args.state.now _ _ _ _ _ _ _ c.in-Ok.ensures.text c.in-Err-flush.ensures.bytes
