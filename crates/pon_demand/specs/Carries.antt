-- What whole words leave of the rates of an Alloc-ID: less than a word, carried to its next map.
use Rattle.std.specs.Prelude.{ℕ, ◌≡◌, ◌≤◌, ◌==◌, if◌then◌else◌, List, [], ◌∷◌, map, length, All}
use Rattle.pon_admit.specs.declared.row.Row.{Row}
use Rattle.pon_admit.specs.declared.rule.Rule.{Rule}
use Rattle.pon_admit.specs.Roster.{max_carry}

-- the number of an Alloc-ID, given one for each row: that of its row, 0 if it has none
abbrev pub number_of : List Row → List ℕ → ℕ → ℕ
number_of (r ∷ rows) (n ∷ ns) i = if r.alloc_id == i then n else number_of rows ns i
number_of (r ∷ rows) [] i = 0
number_of [] ns i = 0

-- the carry of each row, in map order, given one for each Alloc-ID
abbrev pub carries_of : (ℕ → ℕ) → List Row → List ℕ
carries_of carry rows = map (λ r. carry r.alloc_id) rows

-- one carry for each row, each within the range of the rule
pub record AreCarries (rule : Rule) (rows : List Row) (carries : List ℕ) : Type 0 where
  pub count : length carries ≡ length rows
  pub range : All (λ c. c ≤ max_carry rule) carries
