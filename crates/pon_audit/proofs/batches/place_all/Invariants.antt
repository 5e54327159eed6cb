use Rattle.std.proofs.Common.{◌≡◌, ◌++◌, List, length, take}
use Rattle.pon_record.specs.Chapters.{PlacedChapter}
use Rattle.pon_audit.specs.Judging.{AreJudged}
use Rattle.pon_audit.proofs.batches.place_all.Given as goal

-- the chapters before the place are judged
abbrev pub invariant-loop-judged : goal.invariant-loop-judged
invariant-loop-judged l = record {
  at : l.place ≡ length l.yielded;
  judged : (earlier : List PlacedChapter) → AreJudged earlier l.initial.ends → AreJudged (earlier ++ take l.place l.chapters) l.ends;
}
