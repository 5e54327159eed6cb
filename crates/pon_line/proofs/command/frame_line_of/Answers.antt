use Rattle.std.proofs.Common.{rules}
use Rattle.pon_text.specs.Lines.{words_of}
use Rattle.pon_line.proofs.OtherLines.{other_request}
use Rattle.pon_line.proofs.command.frame_line_of.Goals as goal

pub returns-in_default : goal.returns-in_default
returns-in_default c =
    rw c.in_ok-name.ensures (other_request c.args.port c.in_ok-name.name.word.now (words_of c.in_ok-name.name.rest.now) c.in_ok-of_word.field-0 (search rules) c.in_default.not-Map c.in_default.not-Report)
