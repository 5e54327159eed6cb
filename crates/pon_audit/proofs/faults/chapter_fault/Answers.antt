use Rattle.pon_audit.specs.Judging.{EndsWith, FailsLater}
use Rattle.std.specs.Prelude.{MatchOption}
use Rattle.pon_audit.specs.Verdicts.{ChapterFails, MayStandAfter}
use Rattle.pon_audit.proofs.FirstFaults.{one_more_judged}
use Rattle.pon_audit.proofs.faults.chapter_fault.Goals as goal

pub place_fault-requires-clause-judged : goal.place_fault-requires-clause-judged
place_fault-requires-clause-judged c = c.requires.judged

pub place_fault-requires-clause-opens : goal.place_fault-requires-clause-opens
place_fault-requires-clause-opens c =
    let fails : FailsLater c.args.chapter.now c.in-Fails.fault = rw c.in-Fails.is at c.requires.answer in
    fails.opens

pub place_fault-requires-in-Ends-clause-judged : goal.place_fault-requires-in-Ends-clause-judged
place_fault-requires-in-Ends-clause-judged c = c.requires.judged

pub place_fault-requires-in-Ends-clause-opens : goal.place_fault-requires-in-Ends-clause-opens
place_fault-requires-in-Ends-clause-opens c =
    let ends : EndsWith c.args.chapter.now c.in-Ends.end = rw c.in-Ends.is at c.requires.answer in
    ends.good.lawful.opening

pub returns-in_ok-keep-in-None-2 : goal.returns-in_ok-keep-in-None-2
returns-in_ok-keep-in-None-2 c = λ earlier judged.
    let ends : EndsWith c.args.chapter.now c.in-Ends.end = rw c.in-Ends.is at c.requires.answer in
    let found : MatchOption c.in_ok-why-in-Ends.field-0 (MayStandAfter earlier c.args.chapter.now) (λ why. ChapterFails earlier c.args.chapter.now 0 why) = c.in_ok-why-in-Ends.ensures.fault earlier judged in
    let stands : MayStandAfter earlier c.args.chapter.now = rw c.in-None-2.is at found in
    one_more_judged earlier c.args.chapter.now c.args.ends.now c.in-Ends.end c.in_ok-keep-in-None-2.ensures.len judged stands ends c.in_ok-keep-in-None-2.ensures.range c.keep.new.self c.in_ok-keep-in-None-2.ensures.kept
