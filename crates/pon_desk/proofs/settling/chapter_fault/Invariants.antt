use Rattle.std.proofs.Common.{ℕ, ◌<◌}
use Rattle.pon_desk.specs.Settling.{IsRightChapter}
use Rattle.pon_desk.proofs.settling.chapter_fault.Given as goal

-- the chapters so far are right
abbrev pub invariant-loop-k : goal.invariant-loop-k
invariant-loop-k l = (j : ℕ) → j < l.k → IsRightChapter (record { opened = l.opened; chapters = l.chapters; kept = l.kept }) j
