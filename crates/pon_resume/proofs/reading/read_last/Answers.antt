use Rattle.std.proofs.Common.{[], ◌∷◌, ◌++◌, ◌∙◌}
use Rattle.pon_record.specs.Streams.{StandsAfter}
use Rattle.pon_resume.specs.Ends.{AreAll}
use Rattle.pon_resume.proofs.Further.{last_in}
use Rattle.pon_resume.proofs.reading.read_last.Goals as goal

-- no chapter was opened
pub returns-in_default-clause-last : goal.returns-in_default-clause-last
returns-in_default-clause-last g c = λ bytes is.
    let all : AreAll bytes [] = rw c.in_default.is at (c.in_ok-source.ensures.opens bytes is) in
    last_in bytes [] c.in_ok-last.last all c.in_ok-last.ensures

pub returns-in-None-clause-last : goal.returns-in-None-clause-last
returns-in-None-clause-last g c = λ bytes is.
    let so_far = c.loop-chapter.invariant.so_far bytes is in
    let all : AreAll bytes so_far.0 = rw c.in-None.is at (c.in_ok-chapter.ensures.gives bytes so_far.0 so_far.1) in
    last_in bytes so_far.0 c.loop-chapter.last all so_far.2

pub loop-chapter-preserved : goal.loop-chapter-preserved
loop-chapter-preserved g c = record {
  so_far = λ bytes is.
      let so_far = c.loop-chapter.invariant.so_far bytes is in
      let next = c.in-Some-2.chapter in
      let stands : StandsAfter bytes (so_far.0 ++ next ∷ []) c.next_chapter.new.source (g.R.DevRead.remaining c.next_chapter.new.reader)
      = rw c.in-Some-2.is at (c.in_ok-chapter.ensures.gives bytes so_far.0 so_far.1) in
      (so_far.0 ++ next ∷ [], stands, c.keep.ensures so_far.0 so_far.2);
  none_failed = c.in_ok-chapter.ensures.failures ∙ c.loop-chapter.invariant.none_failed;
}
