-- The numbers of chapters that follow one another.
use Rattle.std.specs.Prelude.{ℕ, ◌+◌, ◌<◌, All, List, [], ◌∷◌, max, Option, Some, None}
use Rattle.pon_history.specs.Chapters.{Chapter}

-- its number is above those of all chapters before
abbrev pub ComesAfter : List Chapter → Chapter → Type 0
ComesAfter before c = All (λ d. d.number < c.number) before

-- the least number that is above the last one, if there is one
abbrev pub next_number : Option ℕ → ℕ
next_number None = 0
next_number (Some n) = n + 1

-- the greatest number that came, after one more
abbrev pub newest_after : Option ℕ → ℕ → Option ℕ
newest_after None n = Some n
newest_after (Some m) n = Some (max m n)

-- all numbers are below this one
abbrev pub AreBelow : ℕ → List Chapter → Type 0
AreBelow n cs = All (λ c. c.number < n) cs

-- the number of the last chapter
abbrev pub last_number : List Chapter → Option ℕ
last_number [] = None
last_number (c ∷ []) = Some c.number
last_number (c ∷ d ∷ cs) = last_number (d ∷ cs)
