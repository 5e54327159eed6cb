use Rattle.std.proofs.Common.{◌++◌, ◌∷◌, [], rules}
use Rattle.std.specs.Prelude.{MatchOption}
use Rattle.pon_audit.specs.Judging.{AreJudged}
use Rattle.pon_audit.specs.Verdicts.{ChapterFails}
use Rattle.pon_audit.specs.declared.chapters.Fault.{Fault}
use Rattle.pon_audit.proofs.FirstFaults.{first_here}
use Rattle.pon_audit.proofs.faults.judge_next.Goals as goal

pub returns-in-Some : goal.returns-in-Some
returns-in-Some c = λ earlier judged.
    let told : MatchOption c.in_ok-fault.field-0 (AreJudged (earlier ++ c.args.chapter.now ∷ []) c.chapter_fault.new.ends) (λ (f : Fault). ChapterFails earlier c.args.chapter.now f.index f.why) = c.in_ok-fault.ensures earlier judged in
    let fails : ChapterFails earlier c.args.chapter.now c.in-Some.fault.index c.in-Some.fault.why = rw c.in-Some.is at told in
    first_here earlier c.args.chapter.now _ _ c.in-Some.fault judged.good (search rules) (search rules) fails
