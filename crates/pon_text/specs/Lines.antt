-- Lines and words of a text, and numbers.
use Rattle.std.specs.Prelude.{ℕ, ◌^◌, ◌==◌, ◌||◌, ◌&&◌, not, nat_le, nat_lt, Bool, true, if◌then◌else◌, List, [], ◌∷◌, length, map, Option, Some, None}
use Rattle.std.specs.Char.{is_ascii_digit}
use Rattle.std.specs.List.{list_any, list_all}
use Rattle.std.specs.Str.Lines.{strip_carriage_return}
use Rattle.std.specs.Str.Parse.{digits_value}
use Rattle.pon_text.specs.declared.numbers.TheConstants.{MAX_DIGITS}

-- a byte prepended to the first of some pieces
abbrev pub onto : ℕ → List (List ℕ) → List (List ℕ)
onto b [] = (b ∷ []) ∷ []
onto b (l ∷ ls) = (b ∷ l) ∷ ls

-- the lines, without their line feeds; the last may have no line feed, and counts if it is not empty
abbrev pub lines_of : List ℕ → List (List ℕ)
lines_of [] = []
lines_of (b ∷ bs) = if b == 10 then [] ∷ lines_of bs else onto b (lines_of bs)

-- the prefix that ends in the last line feed
abbrev pub whole_lines : List ℕ → List ℕ
whole_lines [] = []
whole_lines (b ∷ bs) = if list_any (λ c. c == 10) (b ∷ bs) then b ∷ whole_lines bs else []

-- a line without the carriage return at its end, if it has one; at most one is removed
abbrev pub without_return : List ℕ → List ℕ
without_return l = strip_carriage_return l

-- the lines of a text, each without its line feed and the one carriage return before it
abbrev pub file_lines : List ℕ → List (List ℕ)
file_lines text = map without_return (lines_of text)

-- a space or a tab
abbrev pub is_blank : ℕ → Bool
is_blank b = b == 32 || b == 9

-- whether a word ends before this text: the text is empty, or begins with a blank
abbrev pub ends_word : List ℕ → Bool
ends_word [] = true
ends_word (b ∷ bs) = is_blank b

-- the words, separated by blanks
abbrev pub words_of : List ℕ → List (List ℕ)
words_of [] = []
words_of (b ∷ bs) =
    if is_blank b then words_of bs else
    (if ends_word bs then (b ∷ []) ∷ words_of bs else onto b (words_of bs))

-- 1 to 20 decimal digits
abbrev pub is_numeral : List ℕ → Bool
is_numeral w = not (length w == 0) && (nat_le (length w) MAX_DIGITS && list_all is_ascii_digit w)

-- the value of a word of digits, if it is below 2 ^ 64
abbrev pub number_of : List ℕ → Option ℕ
number_of w = if is_numeral w && nat_lt (digits_value 10 w) (2 ^ 64) then Some (digits_value 10 w) else None
