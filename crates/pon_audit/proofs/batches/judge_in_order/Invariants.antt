use Rattle.std.proofs.Common.{◌++◌, List, take}
use Rattle.pon_record.specs.Chapters.{PlacedChapter}
use Rattle.pon_audit.specs.Judging.{AreJudged}
use Rattle.pon_audit.proofs.batches.judge_in_order.Given as goal

-- the chapters before the place are judged
abbrev pub invariant-loop-place : goal.invariant-loop-place
invariant-loop-place l = (earlier : List PlacedChapter) → AreJudged earlier l.initial.ends → AreJudged (earlier ++ take l.place l.chapters) l.ends
