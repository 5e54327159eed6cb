-- How much of an input is answered, for any pieces in which it is read.
use Rattle.std.specs.Prelude.{ℕ, ◌≡◌, ◌==◌, false, List, ◌++◌, take, Option, Result, Ok, Err}
use Rattle.std.specs.List.{list_any}
use Rattle.pon_device.specs.Device.{Appends}
use Rattle.pon_device.specs.Streams.{IsBeginning}
use Rattle.pon_text.specs.Lines.{lines_of, whole_lines}
use Rattle.pon_device.specs.declared.fault.DeviceFault.{DeviceFault}
use Rattle.pon_device.specs.declared.fault.DeviceFault.TheVariants.{Read, Write, Memory}
use Rattle.pon_text.specs.Giving.{Giving, GivesLines}
use Rattle.pon_text.specs.Planning.{BeginsText, EndsBetween}

-- the whole lines of the input have the text and lead to the new state, and `line` is kept of the open line after them
pub record Answered {S : Type 0} (gives : Giving S) (old new : S) (input text line : List ℕ) : Type 0 where
  pub done : List ℕ
  pub cur : List ℕ
  pub lines : List (List ℕ)
  pub parts : input ≡ done ++ cur
  pub open_line : list_any (λ b. b == 10) cur ≡ false
  pub split : (tail : List ℕ) → lines_of (done ++ tail) ≡ lines ++ lines_of tail
  pub whole : (tail : List ℕ) → whole_lines (done ++ tail) ≡ done ++ whole_lines tail
  pub gave : GivesLines gives old lines text new
  pub kept : line ≡ take 4097 cur

-- after any input read before, these bytes add the text
abbrev pub Continues : {S : Type 0} → Giving S → S → List ℕ → S → List ℕ → List ℕ → List ℕ → Type 0
Continues {S} gives old kept new line bytes text =
    (first : S) (input written : List ℕ) → Answered gives first old input written kept → Answered gives first new (input ++ bytes) (written ++ text) line

-- after any input read before, any prefix of the text may be written for these bytes
abbrev pub MayBegin : {S : Type 0} → Giving S → S → List ℕ → List ℕ → List ℕ → Type 0
MayBegin {S} gives old kept bytes text =
    (first : S) (input written part : List ℕ) → Answered gives first old input written kept → IsBeginning part text → BeginsText gives first (input ++ bytes) (written ++ part)

-- the bytes are answered: part of the text is written, and the rest is gathered
pub record Gathers {S : Type 0} (gives : Giving S) (old : S) (kept : List ℕ) (new : S) (line bytes gathered : List ℕ) (held_old held_new : Option (List ℕ)) : Type 0 where
  pub text : List ℕ
  pub sent : List ℕ
  pub goes : Continues gives old kept new line bytes text
  pub wrote : Appends held_old held_new sent
  pub all : text ≡ sent ++ gathered

-- the first bytes of a piece are answered
pub record Reached {S : Type 0} (gives : Giving S) (old : S) (kept : List ℕ) (new : S) (line piece rest gathered : List ℕ) (held_old held_new : Option (List ℕ)) : Type 0 where
  pub seen : List ℕ
  pub parts : piece ≡ seen ++ rest
  pub gathers : Gathers gives old kept new line seen gathered held_old held_new

-- the first bytes of a piece are answered, in some state
pub record StopsWithin {S : Type 0} (gives : Giving S) (old : S) (kept piece gathered : List ℕ) (held_old held_new : Option (List ℕ)) : Type 0 where
  pub mid : S
  pub line : List ℕ
  pub rest : List ℕ
  pub reached : Reached gives old kept mid line piece rest gathered held_old held_new

-- after any input read before, the text of some lines that end in these bytes is written, and nothing of the next one
abbrev pub MayStop : {S : Type 0} → Giving S → S → List ℕ → List ℕ → List ℕ → Type 0
MayStop {S} gives old kept bytes text =
    (first : S) (input written : List ℕ) → Answered gives first old input written kept → EndsBetween gives first (input ++ bytes) (written ++ text)

-- the text of some lines that end in a piece is written, and nothing of the next one
abbrev pub WritesLines : {S : Type 0} → Giving S → S → List ℕ → List ℕ → Option (List ℕ) → Option (List ℕ) → Type 0
WritesLines gives old kept piece held_old held_new = (sent : List ℕ) × Appends held_old held_new sent × MayStop gives old kept piece sent

-- a prefix of the text of the bytes is written
abbrev pub WritesBeginning : {S : Type 0} → Giving S → S → List ℕ → List ℕ → Option (List ℕ) → Option (List ℕ) → Type 0
WritesBeginning gives old kept bytes held_old held_new = (sent : List ℕ) × Appends held_old held_new sent × MayBegin gives old kept bytes sent

-- a piece is answered, or its first lines are, or a prefix of its text is written
abbrev pub AnswersPiece : {S : Type 0} → Giving S → S → List ℕ → S → List ℕ → List ℕ → List ℕ → Option (List ℕ) → Option (List ℕ) → Result (Unit {0}) DeviceFault → Type 0
AnswersPiece gives old kept new line piece gathered held_old held_new (Ok done) = Gathers gives old kept new line piece gathered held_old held_new
AnswersPiece gives old kept new line piece gathered held_old held_new (Err Read) = ⊥
AnswersPiece gives old kept new line piece gathered held_old held_new (Err Write) = WritesBeginning gives old kept piece held_old held_new
AnswersPiece gives old kept new line piece gathered held_old held_new (Err Memory) = StopsWithin gives old kept piece gathered held_old held_new

-- the text of a piece is written, or that of its first lines, or a prefix of it
abbrev pub PrintsPiece : {S : Type 0} → Giving S → S → List ℕ → S → List ℕ → List ℕ → Option (List ℕ) → Option (List ℕ) → Result (Unit {0}) DeviceFault → Type 0
PrintsPiece gives old kept new line piece held_old held_new (Ok done) = (text : List ℕ) × Continues gives old kept new line piece text × Appends held_old held_new text
PrintsPiece gives old kept new line piece held_old held_new (Err Read) = ⊥
PrintsPiece gives old kept new line piece held_old held_new (Err Write) = WritesBeginning gives old kept piece held_old held_new
PrintsPiece gives old kept new line piece held_old held_new (Err Memory) = WritesLines gives old kept piece held_old held_new
