-- A text split at its first separator, and the rest of a line after a keyword.
use Rattle.std.specs.Prelude.{ℕ, ◌+◌, ◌==◌, if◌then◌else◌, List, length, take, drop, Option, Some, None, option_map}
use Rattle.std.specs.Str.{bytes_eq}
use Rattle.std.specs.List.{position}

-- the rest of a line after this prefix, if it begins with it
abbrev pub follows : List ℕ → List ℕ → Option (List ℕ)
follows first l = if bytes_eq (take (length first) l) first then Some (drop (length first) l) else None

-- the bytes before and after the first byte c
abbrev pub cut_at : ℕ → List ℕ → Option (List ℕ × List ℕ)
cut_at c t = option_map (λ i. (take i t, drop (i + 1) t)) (position (λ b. b == c) t)
