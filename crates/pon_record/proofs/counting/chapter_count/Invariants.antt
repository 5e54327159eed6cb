use Rattle.std.proofs.Common.{◌+◌, ◌≤◌, List, length}
use Rattle.pon_record.specs.declared.version.Version.{Version}
use Rattle.pon_record.specs.Chapters.{PlacedChapter}
use Rattle.pon_record.specs.Recordings.{IsRecordingIn}
use Rattle.pon_record.proofs.CountedChapters.{AreCounted}
use Rattle.pon_record.proofs.counting.chapter_count.Given as goal

abbrev pub invariant-loop-rest : goal.invariant-loop-rest
invariant-loop-rest l = record {
  few : l.count + length l.rest ≤ length l.bytes;
  counted : (v : Version) (chapters : List PlacedChapter) → IsRecordingIn v l.bytes chapters → AreCounted v l.rest l.count chapters;
}

abbrev pub decreases-loop-rest : goal.decreases-loop-rest
decreases-loop-rest l = length l.rest
