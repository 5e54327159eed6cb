-- The value at a key of a table of settings (TOML).
use Rattle.std.specs.Prelude.{ℕ, ℤ, pos, nat_le, ◌&&◌, if◌then◌else◌, List, [], ◌∷◌, Option, Some, None, is_some, option_and_then}
use Rattle.std.specs.List.{list_all}
use Rattle.toml.specs.Data.{Data, Items, no_items, item, Members, get_member, as_integer, as_array, as_table}

-- the greatest whole number of TOML
abbrev pub greatest_integer : ℕ
greatest_integer = 9223372036854775807

-- a number in a range
abbrev pub whole : ℕ → ℕ → ℤ → Option ℕ
whole least most (pos n) = if nat_le least n && nat_le n most then Some n else None
whole least most _ = None

abbrev pub number : ℕ → ℕ → Data → Option ℕ
number least most d = option_and_then (whole least most) (as_integer d)

abbrev pub number_or_zero : ℕ → Option Data → Option ℕ
number_or_zero most None = Some 0
number_or_zero most (Some d) = number 0 most d

-- the number at a key, in a range
abbrev pub required : List ℕ → ℕ → ℕ → Members → Option ℕ
required key least most t = option_and_then (number least most) (get_member key t)

-- the number at a key, or 0 if the key is absent
abbrev pub optional : List ℕ → ℕ → Members → Option ℕ
optional key most t = number_or_zero most (get_member key t)

-- the elements of an array
abbrev pub elements : Items → List Data
elements no_items = []
elements (item d ds) = d ∷ elements ds

-- the elements, if each is a table
abbrev pub if_tables : List Data → Option (List Data)
if_tables ds = if list_all (λ d. is_some (as_table d)) ds then Some ds else None

abbrev pub tables : Data → Option (List Data)
tables d = option_and_then (λ ds. if_tables (elements ds)) (as_array d)

abbrev pub tables_or_none : Option Data → Option (List Data)
tables_or_none None = Some []
tables_or_none (Some d) = tables d

-- the tables at a key; for an optional key, no tables if it is absent
abbrev pub required_tables : List ℕ → Members → Option (List Data)
required_tables key t = option_and_then tables (get_member key t)

abbrev pub optional_tables : List ℕ → Members → Option (List Data)
optional_tables key t = tables_or_none (get_member key t)
