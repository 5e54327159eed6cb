-- A line requests something only of an existing port.
use Rattle.std.proofs.Common.{ℕ, ◌<◌, List}
use Rattle.std.specs.Prelude.{Option, Result, Ok, Err}
use Rattle.pon_admit.specs.declared.event.Event.{Event}
use Rattle.pon_admit.specs.declared.event.Event.TheVariants.{MakeMap, Restore}
use Rattle.pon_line.specs.Commands.{admit_of, alloc_of, change_of, fail_of, no_arguments, remove_of, report_of}
use Rattle.pon_line.specs.Reading.{AsksWithin, by_command, read_line}
use Rattle.pon_line.specs.declared.fault.LineRefusal.{LineRefusal}
use Rattle.pon_line.specs.declared.reading.Reading.TheVariants.{AsksCert, AsksState, AsksRows, AsksHelp, AsksStop}
use Rattle.pon_line.specs.declared.table.Command.{Command}
use Rattle.pon_line.specs.declared.table.Command.TheVariants as command
use Rattle.pon_line.proofs.AskedEvents.{Reads, asks_explained, asks_promised, asks_shown, asks_taken, read_line-asks}

any : {A P : Type 0} (r : Result A LineRefusal) → P → Reads (λ _. P) r
any (Ok x) h = h
any (Err refusal) h = tt

abbrev Within : ℕ → ℕ → Option Event → Type 0
Within ports port event = port < ports

command_within : (ports port : ℕ) (c : Command) (ws : List (List ℕ)) → port < ports → AsksWithin ports (by_command port c ws)
command_within ports port command.Admit ws h = asks_taken (Within ports) port (admit_of ws) (any (admit_of ws) h)
command_within ports port command.Change ws h = asks_taken (Within ports) port (change_of ws) (any (change_of ws) h)
command_within ports port command.Remove ws h = asks_taken (Within ports) port (remove_of ws) (any (remove_of ws) h)
command_within ports port command.Report ws h = asks_taken (Within ports) port (report_of ws) (any (report_of ws) h)
command_within ports port command.Map ws h = asks_taken (Within ports) port _ (any (no_arguments MakeMap ws) h)
command_within ports port command.Fail ws h = asks_taken (Within ports) port (fail_of ws) (any (fail_of ws) h)
command_within ports port command.Restore ws h = asks_taken (Within ports) port _ (any (no_arguments Restore ws) h)
command_within ports port command.Cert ws h = asks_shown (Within ports) (AsksCert port) ws h
command_within ports port command.Show ws h = asks_shown (Within ports) (AsksState port) ws h
command_within ports port command.List ws h = asks_shown (Within ports) (AsksRows port) ws h
command_within ports port command.Why ws h = asks_explained (Within ports) port (alloc_of ws) h
command_within ports port command.Sure ws h = asks_promised (Within ports) port (alloc_of ws) h
command_within ports port command.Help ws h = asks_shown (Within ports) (AsksHelp port) ws h
command_within ports port command.Stop ws h = asks_shown (Within ports) (AsksStop port) ws h

pub read_line-within : (ports : ℕ) (line : List ℕ) → AsksWithin ports (read_line ports line)
read_line-within ports line = read_line-asks (Within ports) ports (command_within ports) line
