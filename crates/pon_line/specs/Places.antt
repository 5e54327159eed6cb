-- The refusals of lines: a fault, and the word that has it.
use Rattle.std.specs.Prelude.{ℕ, Some, None}
use Rattle.pon_line.specs.declared.fault.LineFault.{LineFault}
use Rattle.pon_line.specs.declared.fault.LineRefusal.{LineRefusal}
use Rattle.pon_line.specs.declared.fault.LineFault.TheVariants.{UnknownCommand}
use Rattle.pon_line.specs.declared.field.Field.{Field}
use Rattle.pon_line.specs.declared.field.Field.TheVariants.{Command}

-- the fault of the word at an index, which is to be this field
abbrev pub at_word : LineFault → ℕ → Field → LineRefusal
at_word fault n field = record { fault = fault; at = Some (record { word = n; field = field }) }

-- the second word is no command
abbrev pub no_command : LineRefusal
no_command = at_word UnknownCommand 1 Command

-- the fault of no single word
abbrev pub of_line : LineFault → LineRefusal
of_line fault = record { fault = fault; at = None }
