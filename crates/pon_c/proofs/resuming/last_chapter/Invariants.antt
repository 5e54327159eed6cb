use Rattle.std.proofs.Common.{List}
use Rattle.std.specs.Prelude.{Some}
use Rattle.pon_record.specs.Chapters.{PlacedChapter}
use Rattle.pon_record.specs.Streams.{StandsAfter}
use Rattle.pon_c.proofs.LastChapters.{TellsSoFar}
use Rattle.pon_c.proofs.resuming.last_chapter.Given as goal

-- the chapters that were read, and the last one of the port among them
abbrev pub invariant-loop-chapter : goal.invariant-loop-chapter
invariant-loop-chapter l = (whole : List PlacedChapter) × StandsAfter l.fn.bytes whole l.source (Some l.reader.inner.now) × TellsSoFar l.port whole l.last
