use Rattle.std.proofs.Common.{◌++◌, ◌∷◌, [], arith, take}
use Rattle.std.specs.Prelude.{MatchOption}
use Rattle.pon_audit.specs.Judging.{AreJudged, TellsBad}
use Rattle.pon_audit.proofs.FirstFaults.{told_in}
use Rattle.pon_audit.proofs.batches.judge_in_order.Goals as goal

pub returns-in-Some : goal.returns-in-Some
returns-in-Some c = λ earlier judged.
    let cs = c.args.chapters.now in
    let before = earlier ++ take c.loop-place.place cs in
    let chapter = c.index-chapters-place-in-loop-place.result in
    let found : MatchOption c.in_ok-verdict.field-0 (AreJudged (before ++ chapter ∷ []) c.judge_next.new.ends) (TellsBad (before ++ chapter ∷ [])) = c.in_ok-verdict.ensures before (c.loop-place.invariant earlier judged) in
    let told : TellsBad (before ++ chapter ∷ []) c.in-Some.verdict = rw c.in-Some.is at found in
    told_in earlier cs c.loop-place.place chapter (omega arith) c.index-chapters-place-in-loop-place.is c.in-Some.verdict told

pub judge_next-requires-clause-judged : goal.judge_next-requires-clause-judged
judge_next-requires-clause-judged c = (c.requires.judged.0 ++ take c.loop-place.place c.args.chapters.now, c.loop-place.invariant c.requires.judged.0 c.requires.judged.1)
