use Rattle.std.proofs.Common.{◌≡◌, ℕ, List}
use Rattle.std.specs.Prelude.{Some}
use Rattle.pon_record.specs.Chapters.{PlacedChapter}
use Rattle.pon_record.specs.Streams.{StandsAfter}
use Rattle.pon_resume.specs.LastChapters.{AreLast}
use Rattle.pon_resume.proofs.reading.read_last.Given as goal

-- the chapters that were read, and the last ones among them; no read has failed
abbrev pub invariant-loop-chapter : goal.invariant-loop-chapter
invariant-loop-chapter g l = record {
  so_far : (bytes : List ℕ) → g.R.DevRead.remaining l.fn.reader ≡ Some bytes
      → (whole : List PlacedChapter) × StandsAfter bytes whole l.source (g.R.DevRead.remaining l.reader) × AreLast whole l.last;
  none_failed : g.R.DevRead.failures l.reader ≡ g.R.DevRead.failures l.fn.reader;
}
