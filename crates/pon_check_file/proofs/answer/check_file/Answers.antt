use Rattle.std.specs.Prelude.{string_bytes}
use Rattle.pon_check_file.proofs.FileAnswers.{answered, is_said, not_told}
use Rattle.pon_check_file.proofs.answer.check_file.Goals as goal

pub answer_of-requires : goal.answer_of-requires
answer_of-requires g c = is_said c.in-Ok.ensures.text.0 _ c.in-Ok.parsed c.in-Ok.ensures.text.2

pub returns-clause-text : goal.returns-clause-text
returns-clause-text g c =
    not_told _ _ _ _ c.in-Ok.ensures.text.0 c.as_bytes.result.now (string_bytes c.in-Ok-answer_of.answer.line) c.in-Ok-answer_of.answer.accepted c.in-Err-write_text.fault
    c.in-Ok.ensures.text.1 (answered c.in-Ok.ensures.text.0 (g.R.DevRead.remaining c.read_file.new.reader) c.in-Ok.parsed c.in-Ok-answer_of.answer.accepted (string_bytes c.in-Ok-answer_of.answer.line) c.in-Ok.ensures.text.2 c.in-Ok-answer_of.ensures) c.as_bytes.ensures.value c.in-Err-write_text.ensures.text
