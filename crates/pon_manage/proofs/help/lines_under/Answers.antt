use Rattle.std.proofs.Common.{◌≡◌, ◌∙◌, ◌++◌, ◌∷◌, [], ap, get_or, rules, string_bytes, sym, take}
use Rattle.std.proofs.lemmas.List.{flat_map_more, take_more}
use Rattle.std.specs.Prelude.{codes, flat_map}
use Rattle.pon_line.specs.Table.{commands}
use Rattle.pon_line.specs.declared.table.Command.TheVariants.{Admit}
use Rattle.pon_manage.specs.Help.{form_line}
use Rattle.pon_manage.specs.Rows.{named}
use Rattle.pon_manage.proofs.help.lines_under.Goals as goal

pub loop-command-preserved : goal.loop-command-preserved
loop-command-preserved c =
    let i = c.loop-command.command-index in
    let head = named (codes "help ") c.args.count (10 ∷ []) in
    let line : string_bytes c.in_ok-line.line ≡ form_line (get_or commands i Admit) = search rules in
    let pushed : string_bytes c.push_str.new.self ≡ string_bytes c.loop-command.text ++ string_bytes c.in_ok-line.line = search rules in
    pushed ∙ (λ k. c.loop-command.invariant k ++ line k) ∙ flat_map_more form_line head (take i commands) (get_or commands i Admit)
    ∙ ap (λ xs. head ++ flat_map form_line xs) (sym (take_more commands i Admit (search rules)))
