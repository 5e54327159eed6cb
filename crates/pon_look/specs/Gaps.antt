-- Chapters that a recording does not have.
use Rattle.std.specs.Prelude.{ℕ, ◌≡◌, ◌+◌, ◌<◌, [], Option, Some, None}
use Rattle.pon_look.specs.declared.contents.Contents.{Contents}
use Rattle.pon_look.specs.declared.gaps.Gap.{Gap}

-- the number of the chapter of a port that comes after the last one, if there was one
abbrev pub next_number : Option ℕ → ℕ
next_number None = 0
next_number (Some last) = last + 1

-- the chapters from the next one of the port to before this number are missing
pub record IsGapBefore (port : ℕ) (last : Option ℕ) (number : ℕ) (g : Gap) : Type 0 where
  pub of_port : g.port ≡ port
  pub first : g.first ≡ next_number last
  pub end : g.last + 1 ≡ number
  pub some : g.first < number

-- there is a map, and no chapter is missing
pub record IsComplete (c : Contents) : Type 0 where
  pub some : 0 < c.maps
  pub none_missing : c.gaps.gaps.items ≡ []
