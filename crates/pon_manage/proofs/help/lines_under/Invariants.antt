use Rattle.std.proofs.Common.{◌≡◌, ◌++◌, ◌∷◌, [], string_bytes, take}
use Rattle.std.specs.Prelude.{codes, flat_map}
use Rattle.pon_line.specs.Table.{commands}
use Rattle.pon_manage.specs.Help.{form_line}
use Rattle.pon_manage.specs.Rows.{named}
use Rattle.pon_manage.proofs.help.lines_under.Given as goal

-- the number of commands, and the lines of those so far
abbrev pub invariant-loop-command : goal.invariant-loop-command
invariant-loop-command l = string_bytes l.text ≡ named (codes "help ") l.fn.count (10 ∷ []) ++ flat_map form_line (take l.command-index commands)
