use Rattle.std.proofs.Common.{◌≡◌, drop}
use Rattle.pon_line.specs.Table.{command_of, commands, named_in}
use Rattle.pon_line.proofs.table.Command.of_word.Given as goal

-- none of the commands before is named
abbrev pub invariant-loop-command : goal.invariant-loop-command
invariant-loop-command l = named_in (drop l.command-index commands) l.word ≡ command_of l.word
