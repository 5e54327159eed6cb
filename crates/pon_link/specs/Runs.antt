-- The run of a reader of a link's records: it takes bytes in pieces, and returns records between them.
use Rattle.std.specs.Prelude.{◌≡◌, ℕ, ◌<◌, Bool, true, IsTrue, List, [], ◌∷◌, ◌++◌, length, Option, Some, None}
use Rattle.pon_link.specs.Reading.{ReaderState, empty, holds_more, IsOpen, HasFault}
use Rattle.pon_link.specs.declared.direction.Direction.{Direction}
use Rattle.pon_link.specs.declared.fault.LinkFault.{LinkFault}

-- a step of a reader: it took a piece, returned a record, or found that the input ended inside one
pub data ReaderStep (R : Type 0) : Type 0 where
  Took : List ℕ → ReaderStep R
  Gave : R → ReaderStep R
  Ended : ReaderStep R

-- a reader whose input ended
abbrev pub at_end : ReaderState → ReaderState
at_end s = record { direction = s.direction; held = s.held; ended = true }

-- The steps lead from the first reader to the second: a piece is appended to the held bytes, a record is that of the
-- held bytes by `Is`, and the input ends with a proper prefix of a record held.
abbrev pub Leads : {R : Type 0} → (List ℕ → R → Type 0) → ReaderState → List (ReaderStep R) → ReaderState → Type 0
Leads Is s [] t = s ≡ t
Leads Is s (Took piece ∷ steps) t = Leads Is (holds_more s piece) steps t
Leads Is s (Gave r ∷ steps) t = Is s.held r × Leads Is (empty s.direction) steps t
Leads Is s (Ended ∷ steps) t = IsOpen s × (0 < length s.held) × Leads Is (at_end s) steps t

-- the bytes that the steps took, in order
abbrev pub bytes_taken : {R : Type 0} → List (ReaderStep R) → List ℕ
bytes_taken [] = []
bytes_taken (Took piece ∷ steps) = piece ++ bytes_taken steps
bytes_taken (Gave r ∷ steps) = bytes_taken steps
bytes_taken (Ended ∷ steps) = bytes_taken steps

-- the records that the steps returned, in order
abbrev pub given : {R : Type 0} → List (ReaderStep R) → List R
given [] = []
given (Took piece ∷ steps) = given steps
given (Gave r ∷ steps) = r ∷ given steps
given (Ended ∷ steps) = given steps

-- The bytes are these records in order, by `Is`, followed by the held bytes.
abbrev pub AreRecords : {R : Type 0} → (List ℕ → R → Type 0) → List ℕ → List R → List ℕ → Type 0
AreRecords Is bytes [] held = bytes ≡ held
AreRecords Is bytes (r ∷ rs) held = (first rest : List ℕ) × (bytes ≡ first ++ rest) × Is first r × AreRecords Is rest rs held

-- The end of a run, before the bytes `rest`: either no fault, and then every byte is taken, no whole record is held,
-- and no bytes are held at the end of the input; or this fault, which is `Truncated` only at the end of the input.
abbrev pub ComesTo : Bool → ReaderState → List ℕ → Option LinkFault → Type 0
ComesTo over s rest None = IsOpen s × (rest ≡ []) × (IsTrue over → s.held ≡ [])
ComesTo over s rest (Some fault) = HasFault s fault × (IsTrue s.ended → IsTrue over × (rest ≡ []))

-- A run of a new reader over the bytes of a stream, in any pieces; `over` is whether the input ends after them.
pub record RunsOver {R : Type 0} (Is : List ℕ → R → Type 0) (d : Direction) (stream : List ℕ) (over : Bool) (steps : List (ReaderStep R)) (s : ReaderState) (fault : Option LinkFault) : Type 0 where
  pub leads : Leads Is (empty d) steps s
  pub rest : List ℕ
  pub stream_is : bytes_taken steps ++ rest ≡ stream
  pub comes_to : ComesTo over s rest fault
