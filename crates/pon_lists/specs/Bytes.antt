-- Lists of bytes.
use Rattle.std.specs.Prelude.{◌<◌, ℕ, List, slice_index}

-- each number of the list is a byte
abbrev pub AreBytes : List ℕ → Type 0
AreBytes bytes = (k : ℕ) → slice_index bytes k < 256
