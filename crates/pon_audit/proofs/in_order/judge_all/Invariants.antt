use Rattle.std.proofs.Common.{take}
use Rattle.std.specs.List.{AllZip}
use Rattle.pon_audit.specs.Judging.{IsJudgment}
use Rattle.pon_audit.proofs.in_order.judge_all.Given as goal

-- the chapters so far are judged
abbrev pub invariant-loop-chapter : goal.invariant-loop-chapter
invariant-loop-chapter l = AllZip IsJudgment (take l.chapter-index l.chapters) l.answers.items
