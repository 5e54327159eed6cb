-- The line that says where a fault of settings is.
use Rattle.std.specs.Prelude.{ℕ, ◌≡◌, List, ◌++◌, codes, decimal}
use Rattle.pon_descr.specs.Refusal.{refusal_text}
use Rattle.pon_settings.specs.declared.fault.SettingsFault.{SettingsFault}
use Rattle.pon_settings.specs.declared.fault.SettingsFault.TheVariants.{Text, Ports, Field, Row, Refused, Memory}

-- the line that names a port, followed by a text
abbrev pub port_line : ℕ → List ℕ → List ℕ
port_line port words = codes "  port " ++ (decimal port ++ words)

-- the line that names a row, followed by a text
abbrev pub row_line : ℕ → ℕ → List ℕ → List ℕ
row_line port row words = port_line port (codes ", alloc " ++ (decimal row ++ words))

abbrev pub NamesPort : ℕ → List ℕ → Type 0
NamesPort port line = (words : List ℕ) × (line ≡ port_line port words)

abbrev pub NamesRow : ℕ → ℕ → List ℕ → Type 0
NamesRow port row line = (words : List ℕ) × (line ≡ row_line port row words)

-- the line names the place of the fault, and its refusal if it is one
abbrev pub Explains : SettingsFault → List ℕ → Type 0
Explains Text line = Unit {0}
Explains Ports line = Unit {0}
Explains (Field port) line = NamesPort port line
Explains (Row port row) line = NamesRow port row line
Explains (Refused port row why) line = line ≡ row_line port row (codes ": " ++ refusal_text why)
Explains Memory line = Unit {0}
