use Rattle.std.proofs.Common.{ℕ}
use Rattle.pon_history.specs.Chapters.{IsLawfulChapter, cut_at}
use Rattle.pon_history.specs.Taking.{IsKept}
use Rattle.pon_why.specs.Lasts.{chapter_with}
use Rattle.pon_why.proofs.retake.state_before.Given as goal

-- the state is the replay of the entries so far
abbrev pub invariant-loop-index : goal.invariant-loop-index
invariant-loop-index l =
    (number : ℕ) × IsLawfulChapter (chapter_with number l.opening l.entries) × IsKept (cut_at (chapter_with number l.opening l.entries) l.index) l.state
