-- The descriptor of a table of settings (TOML).
use Rattle.std.specs.Prelude.{ℕ, ℤ, pos, ◌≡◌, List, codes, Option, Some, None, option_and_then}
use Rattle.toml.specs.Data.{Members, get_member, as_integer, as_str}
use Rattle.pon_descr.specs.Classes.{class_of}
use Rattle.pon_descr.specs.Descriptor.{Descriptor, descriptor_refusal}
use Rattle.pon_descr.specs.declared.class.Class.{Class}
use Rattle.pon_descr.specs.declared.refusal.Refusal.{Refusal}
use Rattle.pon_descr.specs.declared.table.DescrFault.{DescrFault}
use Rattle.pon_descr.specs.declared.table.DescrFault.TheVariants.{Field, Refused}

-- a number that is not negative
abbrev pub natural : ℤ → Option ℕ
natural (pos n) = Some n
natural _ = None

-- the rate of a key
abbrev pub rate_at : List ℕ → Members → Option ℕ
rate_at key t = option_and_then natural (option_and_then as_integer (get_member key t))

-- the class of a table
abbrev pub class_in_table : Members → Option Class
class_in_table t = option_and_then class_of (option_and_then as_str (get_member (codes "class") t))

-- a descriptor of three rates and a class, if all are present
abbrev pub all_there : Option ℕ → Option ℕ → Option ℕ → Option Class → Option Descriptor
all_there (Some fixed) (Some assured) (Some most) (Some class) = Some (record { fixed = fixed; assured = assured; max = most; class = class })
all_there _ _ _ _ = None

-- the descriptor of the keys `fixed`, `assured`, `max` and `class`, whatever the other keys
abbrev pub described : Members → Option Descriptor
described t = all_there (rate_at (codes "fixed") t) (rate_at (codes "assured") t) (rate_at (codes "max") t) (class_in_table t)

-- one of the four is absent or out of form, or their values are refused
abbrev pub IsDescrFault : Option Descriptor → DescrFault → Type 0
IsDescrFault None fault = fault ≡ Field
IsDescrFault (Some d) fault = (why : Refusal) × (descriptor_refusal d ≡ Some why) × (fault ≡ Refused why)
