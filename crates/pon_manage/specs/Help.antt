-- The text that lists all management lines.
use Rattle.std.specs.Prelude.{ℕ, ◌+◌, List, [], ◌∷◌, ◌++◌, length, codes, flat_map}
use Rattle.pon_line.specs.Table.{commands, line_of}
use Rattle.pon_line.specs.declared.table.Command.{Command}
use Rattle.pon_line.specs.declared.table.Command.TheVariants.{Stop}
use Rattle.pon_manage.specs.Rows.{named}

-- the line of a command: a port, and the words after it
abbrev pub form_line : Command → List ℕ
form_line c = codes "<port> " ++ (line_of c ++ 10 ∷ [])

-- a line with a number of commands, and the lines of those of each port
abbrev pub lines_under : ℕ → List ℕ
lines_under count = named (codes "help ") count (10 ∷ []) ++ flat_map form_line commands

-- the commands of each port
abbrev pub help_text : List ℕ
help_text = lines_under (length commands)

-- the commands of each port, and the one that stops the run
abbrev pub run_help_text : List ℕ
run_help_text = lines_under (length commands + 1) ++ form_line Stop

-- the reply to the command that stops a run
abbrev pub stop_line : List ℕ
stop_line = codes "ok stop" ++ 10 ∷ []
