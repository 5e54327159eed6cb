-- The lines of a check file: the value of each, if it fits.
use Rattle.std.specs.Prelude.{◌≡◌, ℕ, zero, suc, ◌==◌, ◌&&◌, nat_le, nat_lt, Bool, true, false, if◌then◌else◌, List, [], ◌∷◌, length, map, codes, Option, Some, None}
use Rattle.std.specs.Str.{bytes_eq}
use Rattle.pon_lists.specs.OptionSteps.{◌>>=◌}
use Rattle.pon_cert.specs.declared.problem.Item.{Item}
use Rattle.pon_cert.specs.declared.cert.Level.{Level}
use Rattle.pon_cert.specs.declared.cert.Level.TheVariants as level
use Rattle.pon_check_file.specs.Parts.{left_after, parts_of, with_first}
use Rattle.pon_text.specs.Cuts.{cut_at, follows}
use Rattle.pon_text.specs.Lines.{number_of}
use Rattle.pon_units.specs.declared.limits.TheConstants.{LINE_RATE}

-- a number of a range
unfoldable pub number_within : ℕ → ℕ → List ℕ → Option ℕ
number_within least most w = do
  n ← number_of w
  if nat_le least n && nat_le n most then Some n else None

-- `surplus <S>`, in kbit/s
unfoldable pub surplus_of : List ℕ → Option ℕ
surplus_of l = follows (codes "surplus ") l >>= number_within 0 LINE_RATE

-- `item <weight> <cap>`; 32 is a space
unfoldable pub item_on_line : List ℕ → Option Item
item_on_line l = do
  numbers ← follows (codes "item ") l
  parts ← cut_at 32 numbers
  weight ← number_within 1 LINE_RATE parts.0
  cap ← number_within 0 LINE_RATE parts.1
  Some (record { weight = weight; cap = cap })

-- `<p>/<q>` with q above 0; 47 is the slash
unfoldable pub fraction_of : List ℕ → Option Level
fraction_of w = do
  parts ← cut_at 47 w
  num ← number_of parts.0
  den ← number_of parts.1
  if nat_lt 0 den then Some (level.At (record { num = num; den = den })) else None

-- `level all` or `level <p>/<q>`
unfoldable pub level_on_line : List ℕ → Option Level
level_on_line l = follows (codes "level ") l >>= λ w. if bytes_eq w (codes "all") then Some level.All else fraction_of w

-- whether the first remaining index is this one
abbrev pub is_index : ℕ → Option ℕ → Bool
is_index k None = false
is_index k (Some n) = n == k

abbrev pub is_next : ℕ → List (List ℕ) → Bool
is_next k [] = false
is_next k (p ∷ ps) = is_index k (number_of p)

-- for n items from item k on, each is saturated if it is the next index; none if an index remains
unfoldable pub flags_from : ℕ → ℕ → List (List ℕ) → Option (List Bool)
flags_from k zero [] = Some []
flags_from k zero (p ∷ ps) = None
flags_from k (suc n) ps = with_first (is_next k ps) (flags_from (suc k) n (left_after (is_next k ps) ps))

-- the indexes of the saturated items, if the first flag is that of item k
abbrev pub indexes_from : ℕ → List Bool → List ℕ
indexes_from k [] = []
indexes_from k (true ∷ fs) = k ∷ indexes_from (suc k) fs
indexes_from k (false ∷ fs) = indexes_from (suc k) fs

-- the parts of a set write the indexes of the saturated items of n items
abbrev pub WritesFlags : ℕ → List (List ℕ) → List Bool → Type 0
WritesFlags n parts flags = (length flags ≡ n) × (map number_of parts ≡ map Some (indexes_from 0 flags))

-- `saturated -` or `saturated <i>,<j>,..`, as flags of n items
unfoldable pub flags_of : ℕ → List ℕ → Option (List Bool)
flags_of n l = follows (codes "saturated ") l >>= λ set. flags_from 0 n (parts_of set)
