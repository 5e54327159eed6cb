-- What a management line requests.
use Rattle.std.specs.Prelude.{ℕ, ◌<◌, ◌==◌, ◌||◌, ◌&&◌, not, nat_le, nat_lt, Bool, true, false, if◌then◌else◌, List, [], ◌∷◌, length, Option, Some, None, Result, Ok, Err}
use Rattle.std.specs.List.{list_all}
use Rattle.pon_text.specs.Lines.{words_of, without_return}
use Rattle.pon_lists.specs.ResultSteps.{◌>>=◌}
use Rattle.pon_admit.specs.declared.event.Event.{Event}
use Rattle.pon_admit.specs.declared.event.Event.TheVariants.{MakeMap, Restore}
use Rattle.pon_line.specs.Commands.{admit_of, alloc_of, change_of, fail_of, no_arguments, remove_of, report_of}
use Rattle.pon_line.specs.Fields.{number_field}
use Rattle.pon_line.specs.Places.{at_word, no_command, of_line}
use Rattle.pon_line.specs.Table.{command_of}
use Rattle.pon_line.specs.declared.fault.LineFault.TheVariants.{NoSuchPort, LineLong, NotText, WordCount}
use Rattle.pon_line.specs.declared.fault.LineRefusal.{LineRefusal}
use Rattle.pon_line.specs.declared.field.Field.TheVariants as field
use Rattle.pon_line.specs.declared.reading.Reading.{Reading}
use Rattle.pon_line.specs.declared.reading.Reading.TheVariants.{Nothing, Refused, Asks, AsksCert, AsksState, AsksRows, AsksHelp, AsksStop, AsksWhy, AsksSure}
use Rattle.pon_line.specs.declared.table.Command.{Command}
use Rattle.pon_line.specs.declared.table.Command.TheVariants as command

-- the port that a word names, below the number of ports
unfoldable pub port_of : ℕ → List ℕ → Result ℕ LineRefusal
port_of ports w = number_field 0 field.Port w >>= λ n. if nat_lt n ports then Ok n else Err (at_word NoSuchPort 0 field.Port)

-- the request that a port take an event, or the refusal of the line
abbrev pub takes : ℕ → Result Event LineRefusal → Reading
takes port (Ok event) = Asks port event
takes port (Err refusal) = Refused refusal

-- no word follows `cert`, `show`, `list`, `help` and `stop`
abbrev pub shows : Reading → List (List ℕ) → Reading
shows asked [] = asked
shows asked (w ∷ ws) = Refused (of_line WordCount)

-- the explanation of the last map for an Alloc-ID, or the refusal of the line
abbrev pub asks_why : ℕ → Result ℕ LineRefusal → Reading
asks_why port (Ok alloc) = AsksWhy port alloc
asks_why port (Err refusal) = Refused refusal

-- what is sure for an Alloc-ID, or the refusal of the line
abbrev pub asks_sure : ℕ → Result ℕ LineRefusal → Reading
asks_sure port (Ok alloc) = AsksSure port alloc
asks_sure port (Err refusal) = Refused refusal

-- what the words after a command request of a port
abbrev pub by_command : ℕ → Command → List (List ℕ) → Reading
by_command port command.Admit ws = takes port (admit_of ws)
by_command port command.Change ws = takes port (change_of ws)
by_command port command.Remove ws = takes port (remove_of ws)
by_command port command.Report ws = takes port (report_of ws)
by_command port command.Map ws = takes port (no_arguments MakeMap ws)
by_command port command.Fail ws = takes port (fail_of ws)
by_command port command.Restore ws = takes port (no_arguments Restore ws)
by_command port command.Cert ws = shows (AsksCert port) ws
by_command port command.Show ws = shows (AsksState port) ws
by_command port command.List ws = shows (AsksRows port) ws
by_command port command.Why ws = asks_why port (alloc_of ws)
by_command port command.Sure ws = asks_sure port (alloc_of ws)
by_command port command.Help ws = shows (AsksHelp port) ws
by_command port command.Stop ws = shows (AsksStop port) ws

-- a word that names no command is refused
abbrev pub by_name : ℕ → Option Command → List (List ℕ) → Reading
by_name port None ws = Refused no_command
by_name port (Some command) ws = by_command port command ws

-- what the words after a port request of it: its last certificate, its state, its Alloc-IDs, the explanation of its last map
-- for one of them, what is sure for one of them, the list of all lines, or that it takes an event
unfoldable pub request_of : ℕ → List (List ℕ) → Reading
request_of port [] = Refused (of_line WordCount)
request_of port (name ∷ ws) = by_name port (command_of name) ws

-- the port is read before the command
abbrev pub by_port : Result ℕ LineRefusal → List (List ℕ) → Reading
by_port (Err refusal) ws = Refused refusal
by_port (Ok port) ws = request_of port ws

-- a line without words requests nothing; otherwise its first word is the port, and the others are the request
abbrev pub read_words : ℕ → List (List ℕ) → Reading
read_words ports [] = Nothing
read_words ports (w ∷ ws) = by_port (port_of ports w) ws

-- a tab, or a printable character of ASCII
abbrev pub is_text : ℕ → Bool
is_text b = b == 9 || (nat_le 32 b && nat_le b 126)

-- no words, or the first begins with `#`
abbrev pub is_comment : List (List ℕ) → Bool
is_comment [] = true
is_comment ([] ∷ ws) = false
is_comment ((b ∷ w) ∷ ws) = b == 35

-- What a line requests of this number of ports, by its checks in order. The line may end with a carriage return.
unfoldable pub read_line : ℕ → List ℕ → Reading
read_line ports line =
    if nat_lt 4096 (length line) then Refused (of_line LineLong) else
    (if is_comment (words_of (without_return line)) then Nothing else
    (if not (list_all is_text (without_return line)) then Refused (of_line NotText) else
    read_words ports (words_of (without_return line))))

-- P holds for what is requested of a port: an event, or what is shown
abbrev pub Asked : (ℕ → Option Event → Type 0) → Reading → Type 0
Asked P Nothing = Unit {0}
Asked P (Refused refusal) = Unit {0}
Asked P (Asks port event) = P port (Some event)
Asked P (AsksCert port) = P port None
Asked P (AsksState port) = P port None
Asked P (AsksRows port) = P port None
Asked P (AsksHelp port) = P port None
Asked P (AsksStop port) = P port None
Asked P (AsksWhy port alloc) = P port None
Asked P (AsksSure port alloc) = P port None

-- a request is only of an existing port
abbrev pub AsksWithin : ℕ → Reading → Type 0
AsksWithin ports r = Asked (λ port event. port < ports) r
