-- The chapters of a port in a recording.
use Rattle.std.specs.Prelude.{ℕ, ◌==◌, if◌then◌else◌, List, [], ◌∷◌}
use Rattle.pon_history.specs.Chapters.{Chapter}
use Rattle.pon_record.specs.Chapters.{PlacedChapter}
use Rattle.pon_audit.specs.Openings.{chapter_of}

-- in their order
abbrev pub chapters_of : ℕ → List PlacedChapter → List Chapter
chapters_of port [] = []
chapters_of port (c ∷ cs) = if c.body.port == port then chapter_of c.body ∷ chapters_of port cs else chapters_of port cs
