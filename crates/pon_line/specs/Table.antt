-- The commands of management lines: the word of each, and its line in the help.
use Rattle.std.specs.Prelude.{ℕ, if◌then◌else◌, List, [], ◌∷◌, codes, Option, Some, None}
use Rattle.std.specs.Str.{bytes_eq}
use Rattle.pon_line.specs.declared.table.Command.{Command}
use Rattle.pon_line.specs.declared.table.Command.TheVariants.{Admit, Change, Remove, Report, Map, Fail, Restore, Cert, Show, List as Lists, Why, Sure, Help, Stop}

abbrev pub word_of : Command → List ℕ
word_of Admit = codes "admit"
word_of Change = codes "change"
word_of Remove = codes "remove"
word_of Report = codes "report"
word_of Map = codes "map"
word_of Fail = codes "fail"
word_of Restore = codes "restore"
word_of Cert = codes "cert"
word_of Show = codes "show"
word_of Lists = codes "list"
word_of Why = codes "why"
word_of Sure = codes "sure"
word_of Help = codes "help"
word_of Stop = codes "stop"

-- the words after the port, a name for each field
abbrev pub line_of : Command → List ℕ
line_of Admit = codes "admit <onu> <alloc> <fixed> <assured> <max> <class>"
line_of Change = codes "change <alloc> <fixed> <assured> <max> <class>"
line_of Remove = codes "remove <alloc>"
line_of Report = codes "report <frame> <onu> <occupancy> .."
line_of Map = codes "map"
line_of Fail = codes "fail <cause>"
line_of Restore = codes "restore"
line_of Cert = codes "cert"
line_of Show = codes "show"
line_of Lists = codes "list"
line_of Why = codes "why <alloc>"
line_of Sure = codes "sure <alloc>"
line_of Help = codes "help"
line_of Stop = codes "stop"

-- the commands of each port, in the order of the help
abbrev pub commands : List Command
commands = Admit ∷ Change ∷ Remove ∷ Report ∷ Map ∷ Fail ∷ Restore ∷ Cert ∷ Show ∷ Lists ∷ Why ∷ Sure ∷ Help ∷ []

-- the command that stops a run, if this is its word
abbrev pub if_stop : List ℕ → Option Command
if_stop w = if bytes_eq w (word_of Stop) then Some Stop else None

-- the first of these commands that has the word, or the one that stops a run
abbrev pub named_in : List Command → List ℕ → Option Command
named_in [] w = if_stop w
named_in (c ∷ cs) w = if bytes_eq w (word_of c) then Some c else named_in cs w

-- the command that a word names
unfoldable pub command_of : List ℕ → Option Command
command_of w = named_in commands w
