use Rattle.std.proofs.Common.{◌≡◌, ℕ}
use Rattle.pon_history.specs.Taking.{IsKept}
use Rattle.pon_audit.specs.Openings.{OpensLawfully, chapter_of}
use Rattle.pon_history.specs.Chapters.{cut_at}
use Rattle.pon_why.specs.Sums.{plus}
use Rattle.pon_sold.specs.Chapters.{watch_over}
use Rattle.pon_look.specs.Sums.{sums_of}
use Rattle.pon_look.specs.Tallies.{tally_sums, tally_watch}
use Rattle.pon_look.proofs.tally.tally_chapter.Given as goal

-- the entries so far are a lawful chapter, the state is its replay, and the sums and what was sold have what they add
abbrev pub invariant-loop-index : goal.invariant-loop-index
invariant-loop-index l = record {
  opens : OpensLawfully l.chapter.body;
  kept : IsKept (cut_at (chapter_of l.chapter.body) l.index) l.replay.state;
  sums : (i : ℕ) → tally_sums l.tally i ≡ plus (tally_sums l.fn.tally i) (sums_of l.range i (chapter_of l.chapter.body) l.index);
  sold : (i : ℕ) → tally_watch l.tally i ≡ watch_over l.range.first l.range.last i (chapter_of l.chapter.body) (tally_watch l.fn.tally i) l.index;
}
