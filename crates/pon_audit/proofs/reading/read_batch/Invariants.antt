use Rattle.std.proofs.Common.{◌≡◌, ◌++◌, ◌-◌, List, length, ℕ}
use Rattle.std.specs.Prelude.{All}
use Rattle.pon_record.specs.Chapters.{PlacedChapter}
use Rattle.pon_record.specs.Streams.{StandsAfter}
use Rattle.pon_audit.specs.Openings.{FitsRecording}
use Rattle.pon_audit.proofs.reading.read_batch.Given as goal

-- the chapters so far fit, and the device has what follows them
abbrev pub invariant-loop-alloc : goal.invariant-loop-alloc
invariant-loop-alloc g l = record {
  fit : All (λ c. FitsRecording c.body) l.chapters.items;
  stands : (bytes : List ℕ) (whole : List PlacedChapter) → StandsAfter bytes whole l.initial.source (g.R.DevRead.remaining l.initial.reader)
      → StandsAfter bytes (whole ++ l.chapters.items) l.source (g.R.DevRead.remaining l.reader);
  none_failed : g.R.DevRead.failures l.reader ≡ g.R.DevRead.failures l.initial.reader;
}

abbrev pub decreases-loop-alloc : goal.decreases-loop-alloc
decreases-loop-alloc g l = 64 - length l.chapters.items
