use Rattle.std.proofs.Common.{◌≡◌, ◌∙◌, ◌+◌, ap, drop, false, get_or, rules, sym}
use Rattle.std.proofs.lemmas.List.{at_drop_more}
use Rattle.std.specs.Prelude.{if◌then◌else◌, Some}
use Rattle.std.specs.Str.{bytes_eq}
use Rattle.pon_line.specs.Table.{commands, named_in, word_of}
use Rattle.pon_line.specs.declared.table.Command.TheVariants.{Admit}
use Rattle.pon_line.proofs.table.Command.of_word.Goals as goal

pub loop-command-preserved : goal.loop-command-preserved
loop-command-preserved c =
    let i = c.loop-command.command-index in
    let w = c.args.word.now in
    let x = get_or commands i Admit in
    let other : bytes_eq w (word_of x) ≡ false = search rules in
    ap (λ b. if b then Some x else named_in (drop (i + 1) commands) w) (sym other)
    ∙ sym (at_drop_more (λ cs. named_in cs w) commands i Admit (search rules)) ∙ c.loop-command.invariant
