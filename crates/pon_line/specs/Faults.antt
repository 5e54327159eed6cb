-- The text of a fault of a line.
use Rattle.std.specs.Prelude.{ℕ, List, codes}
use Rattle.pon_descr.specs.Refusal.{refusal_text}
use Rattle.pon_line.specs.declared.fault.LineFault.{LineFault}
use Rattle.pon_line.specs.declared.fault.LineFault.TheVariants.{UnknownCommand, WordCount, BadField, NoSuchPort, NoMap, LineLong, NotText, Port}

-- its number and its name; a refusal has its own
abbrev pub line_fault_text : LineFault → List ℕ
line_fault_text UnknownCommand = codes "L1 UnknownCommand"
line_fault_text WordCount = codes "L2 WordCount"
line_fault_text BadField = codes "L3 BadField"
line_fault_text NoSuchPort = codes "L4 NoSuchPort"
line_fault_text NoMap = codes "L5 NoMap"
line_fault_text LineLong = codes "L6 LineLong"
line_fault_text NotText = codes "L7 NotText"
line_fault_text (Port refusal) = refusal_text refusal
