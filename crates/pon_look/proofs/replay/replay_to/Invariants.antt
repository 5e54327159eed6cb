use Rattle.pon_history.specs.Taking.{IsKept}
use Rattle.pon_audit.specs.Openings.{chapter_of}
use Rattle.pon_history.specs.Chapters.{cut_at}
use Rattle.pon_look.proofs.replay.replay_to.Given as goal

-- the entries so far are a lawful chapter, and the state is its replay
abbrev pub invariant-loop-index : goal.invariant-loop-index
invariant-loop-index l = IsKept (cut_at (chapter_of l.chapter.body) l.index) l.replay.state
