-- The text of lines, one after the other.
use Rattle.std.specs.Prelude.{ℕ, ◌≡◌, List, [], ◌∷◌, ◌++◌, take}
use Rattle.pon_text.specs.Lines.{lines_of}

-- the relation of a value that answers lines: its state before, a line, the text of the line, and its state after
abbrev pub Giving : Type 0 → Type 1
Giving S = S → List ℕ → List ℕ → S → Type 0

-- a line and its first 4,097 bytes have the same texts
abbrev pub ReadsFirst : {S : Type 0} → Giving S → Type 0
ReadsFirst {S} gives =
    (old : S) (line text : List ℕ) (new : S) → (gives old (take 4097 line) text new → gives old line text new) × (gives old line text new → gives old (take 4097 line) text new)

-- paths from state to state: one leads from each state to itself, and two that meet are one
pub record IsPath {S : Type 0} (path : S → S → Type 0) : Type 0 where
  pub here : (s : S) → path s s
  pub joined : (a b c : S) → path a b → path b c → path a c

-- the text of a line is appended to the replies
abbrev pub AddsReply : {S : Type 0} → Giving S → S → S → List ℕ → List ℕ → List ℕ → Type 0
AddsReply gives old new line replies_old replies_new = (text : List ℕ) × gives old line text new × (replies_new ≡ replies_old ++ text)

-- the text of lines, one after the other
abbrev pub GivesLines : {S : Type 0} → Giving S → S → List (List ℕ) → List ℕ → S → Type 0
GivesLines {S} gives old [] text new = (text ≡ []) × (new ≡ old)
GivesLines {S} gives old (l ∷ ls) text new =
    (first rest : List ℕ) × (mid : S) × gives old l first mid × GivesLines gives mid ls rest new × (text ≡ first ++ rest)

-- the text of an input is that of its lines
abbrev pub GivesText : {S : Type 0} → Giving S → S → List ℕ → List ℕ → Type 0
GivesText {S} gives start input text = (after : S) × GivesLines gives start (lines_of input) text after
