use Rattle.std.proofs.Common.{rules, ◌∙◌, ap, sym, subst, Err}
use Rattle.std.specs.Prelude.{IfOk}
use Rattle.pon_check_file.specs.Stages.{TakesByte}
use Rattle.pon_check_file.proofs.OpenLines.{feed_ended, long_taken}
use Rattle.pon_check_file.proofs.reading.Open.take.Goals as goal

pub returns-then-byte-eq10 : goal.returns-then-byte-eq10
returns-then-byte-eq10 c = subst (λ b. IfOk c.end_line.result (TakesByte c.args.self b)) (sym c.if-byte-eq10.true) (feed_ended c.args.self c.end_line.result c.requires.open c.end_line.ensures)

pub returns-then-len-gt-MAX_LINE_BYTES : goal.returns-then-len-gt-MAX_LINE_BYTES
returns-then-len-gt-MAX_LINE_BYTES c = λ rest. long_taken c.args.self c.args.byte c.requires.open (search rules) (search rules) rest ∙ ap Err (sym c.line.ensures)
