-- The chapters that are refused at an entry.
use Rattle.std.specs.Prelude.{ℕ, List, [], ◌∷◌, Option, Some, None}
use Rattle.pon_record.specs.Chapters.{Body}
use Rattle.pon_look.specs.declared.port_tallies.Refused.{Refused}

-- the chapter, if it is refused at an entry
abbrev pub refusals_of : Body → Option ℕ → List Refused
refusals_of c None = []
refusals_of c (Some entry) = record { port = c.port; chapter = c.number; entry = entry } ∷ []
