-- What is read and written when lines are answered.
use Rattle.std.specs.Prelude.{ℕ, ◌≡◌, ◌⊎◌, List, [], ◌∷◌, ◌++◌, Option, Result, Ok, Err}
use Rattle.pon_device.specs.Device.{Appends, Consumes, Keeps}
use Rattle.pon_device.specs.Streams.{IsBeginning}
use Rattle.pon_device.specs.declared.fault.DeviceFault.{DeviceFault}
use Rattle.pon_device.specs.declared.fault.DeviceFault.TheVariants.{Read, Write, Memory}
use Rattle.pon_text.specs.Lines.{lines_of, whole_lines}
use Rattle.pon_text.specs.Giving.{Giving, GivesLines}

-- nothing, or a prefix of the text of the next line
abbrev pub BeginsNext : {S : Type 0} → Giving S → S → List (List ℕ) → List ℕ → Type 0
BeginsNext {S} gives start [] part = part ≡ []
BeginsNext {S} gives start (l ∷ ls) part = (part ≡ []) ⊎ ((text : List ℕ) × (after : S) × gives start l text after × IsBeginning part text)

-- a prefix of the text of an input: the text of the first lines, and a prefix of the text of the next one
pub record BeginsText {S : Type 0} (gives : Giving S) (start : S) (input written : List ℕ) : Type 0 where
  pub answered : List (List ℕ)
  pub more : List (List ℕ)
  pub text : List ℕ
  pub part : List ℕ
  pub after : S
  pub lines : lines_of input ≡ answered ++ more
  pub gave : GivesLines gives start answered text after
  pub begins : BeginsNext gives after more part
  pub is : written ≡ text ++ part

-- the text of the first lines of an input, and nothing of the next one
pub record EndsBetween {S : Type 0} (gives : Giving S) (start : S) (input written : List ℕ) : Type 0 where
  pub answered : List (List ℕ)
  pub more : List (List ℕ)
  pub after : S
  pub lines : lines_of input ≡ answered ++ more
  pub gave : GivesLines gives start answered written after

-- what is written for what was read, by how it ended; `last` is the state at the end, if all whole lines are answered
abbrev pub IsText : {S T : Type 0} → Giving S → S → S → List ℕ → List ℕ → Result T DeviceFault → Type 0
IsText gives start last input written (Ok end) = GivesLines gives start (lines_of input) written last
IsText gives start last input written (Err Read) = GivesLines gives start (lines_of (whole_lines input)) written last
IsText gives start last input written (Err Write) = BeginsText gives start input written
IsText gives start last input written (Err Memory) = EndsBetween gives start input written

-- some bytes were read, and the text for them was written
pub record Planned {S T : Type 0} (gives : Giving S) (start last : S) (left_old left_new held_old held_new : Option (List ℕ)) (result : Result T DeviceFault) : Type 0 where
  pub input : List ℕ
  pub written : List ℕ
  pub read : Consumes left_old left_new input
  pub wrote : Appends held_old held_new written
  pub text : IsText gives start last input written result

-- the text of a line was written, or a prefix of it
abbrev pub PrintsLine : {S : Type 0} → Giving S → S → S → List ℕ → Option (List ℕ) → Option (List ℕ) → Result (Unit {0}) DeviceFault → Type 0
PrintsLine gives old new line held_old held_new (Ok done) = (text : List ℕ) × gives old line text new × Appends held_old held_new text
PrintsLine gives old new line held_old held_new (Err Read) = ⊥
PrintsLine gives old new line held_old held_new (Err Write) = (text sent : List ℕ) × gives old line text new × Appends held_old held_new sent × IsBeginning sent text
PrintsLine gives old new line held_old held_new (Err Memory) = Keeps held_old held_new
