-- A line has the same text as its first 4,097 bytes.
use Rattle.std.proofs.Common.{length, subst, sym}
use Rattle.pon_line.proofs.LongLines.{read_line-take}
use Rattle.pon_text.specs.Giving.{ReadsFirst}
use Rattle.pon_manage.specs.Desks.{DeskAnswers, DeskGives}
use Rattle.pon_manage.specs.Text.{Answers, Gives}

pub gives_first : ReadsFirst Gives
gives_first old line text new = (
  subst (λ r. Answers old r text new) (read_line-take (length old) line),
  subst (λ r. Answers old r text new) (sym (read_line-take (length old) line)),
)

pub desk_gives_first : ReadsFirst DeskGives
desk_gives_first old line text new = (
  subst (λ r. DeskAnswers old r text new) (read_line-take (length old.counts) line),
  subst (λ r. DeskAnswers old r text new) (sym (read_line-take (length old.counts) line)),
)
