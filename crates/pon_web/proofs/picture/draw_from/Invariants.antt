use Rattle.std.specs.Prelude.{ℕ, List, []}
use Rattle.pon_record.specs.Chapters.{PlacedChapter}
use Rattle.pon_record.specs.Streams.{StandsAfter}
use Rattle.pon_web.proofs.picture.draw_from.Given as goal

-- the reader stands after whole chapters
abbrev pub invariant-loop-chapter : goal.invariant-loop-chapter
invariant-loop-chapter g l = (bytes : List ℕ) → StandsAfter bytes [] l.fn.source (g.R.DevRead.remaining l.fn.reader)
    → (whole : List PlacedChapter) × StandsAfter bytes whole l.source (g.R.DevRead.remaining l.reader)
