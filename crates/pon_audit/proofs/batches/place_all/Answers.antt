use Rattle.std.proofs.Common.{◌++◌, ◌∷◌, [], ◌<◌, arith, length, rules, take}
use Rattle.std.specs.Prelude.{MatchOption}
use Rattle.std.proofs.lemmas.List.{length-append}
use Rattle.std.proofs.lemmas.Iterator.Adapters.{YieldsList-from_vec}
use Rattle.std.proofs.lemmas.Iterator.Consumers.{YieldsList-end, YieldsList-turn}
use Rattle.pon_audit.specs.Judging.{AreJudged, TellsBad}
use Rattle.pon_audit.proofs.FirstFaults.{all_judged, answer_at, as_many, judged_in, told_in}
use Rattle.pon_audit.proofs.batches.place_all.Goals as goal

pub bounds-chapters-place : goal.bounds-chapters-place
bounds-chapters-place c =
    let at = YieldsList-turn (YieldsList-from_vec {s = c.into_iter-judged-iterator.result} c.args.answers.items (search rules) (search rules)) c.loop-judged.yielded c.loop-judged.judged-iterator c.loop-judged.yielded_by c.next.result c.next.new.self c.in-Some.judged c.in-Some.is c.next.ensures.steps in
    omega (arith, at.0, c.loop-judged.invariant.at, as_many c.args.chapters.now c.args.answers.items c.requires.answers)

pub judge_next-requires-clause-answer : goal.judge_next-requires-clause-answer
judge_next-requires-clause-answer c =
    let at = YieldsList-turn (YieldsList-from_vec {s = c.into_iter-judged-iterator.result} c.args.answers.items (search rules) (search rules)) c.loop-judged.yielded c.loop-judged.judged-iterator c.loop-judged.yielded_by c.next.result c.next.new.self c.in-Some.judged c.in-Some.is c.next.ensures.steps in
    answer_at c.args.chapters.now c.args.answers.items (length c.loop-judged.yielded) c.loop-judged.place _ c.in-Some.judged c.requires.answers at.0 c.loop-judged.invariant.at c.index-chapters-place.is at.1

pub returns-in-Some-2 : goal.returns-in-Some-2
returns-in-Some-2 c = λ earlier judged.
    let at = YieldsList-turn (YieldsList-from_vec {s = c.into_iter-judged-iterator.result} c.args.answers.items (search rules) (search rules)) c.loop-judged.yielded c.loop-judged.judged-iterator c.loop-judged.yielded_by c.next.result c.next.new.self c.in-Some.judged c.in-Some.is c.next.ensures.steps in
    let below : c.loop-judged.place < length c.args.chapters.now = omega (arith, at.0, c.loop-judged.invariant.at, as_many c.args.chapters.now c.args.answers.items c.requires.answers) in
    let cs = c.args.chapters.now in
    let before = earlier ++ take c.loop-judged.place cs in
    let chapter = c.index-chapters-place.result in
    let found : MatchOption c.in_ok-verdict.field-0 (AreJudged (before ++ chapter ∷ []) c.judge_next.new.ends) (TellsBad (before ++ chapter ∷ [])) = c.in_ok-verdict.ensures before (c.loop-judged.invariant.judged earlier judged) in
    let told : TellsBad (before ++ chapter ∷ []) c.in-Some-2.verdict = rw c.in-Some-2.is at found in
    told_in earlier cs c.loop-judged.place chapter below c.index-chapters-place.is c.in-Some-2.verdict told

pub loop-judged-preserved : goal.loop-judged-preserved
loop-judged-preserved c =
    let at = YieldsList-turn (YieldsList-from_vec {s = c.into_iter-judged-iterator.result} c.args.answers.items (search rules) (search rules)) c.loop-judged.yielded c.loop-judged.judged-iterator c.loop-judged.yielded_by c.next.result c.next.new.self c.in-Some.judged c.in-Some.is c.next.ensures.steps in
    let below : c.loop-judged.place < length c.args.chapters.now = omega (arith, at.0, c.loop-judged.invariant.at, as_many c.args.chapters.now c.args.answers.items c.requires.answers) in
    record {
      at = omega (arith, c.loop-judged.invariant.at, length-append c.loop-judged.yielded (c.in-Some.judged ∷ []));
      judged = λ earlier judged.
          let cs = c.args.chapters.now in
          let before = earlier ++ take c.loop-judged.place cs in
          let chapter = c.index-chapters-place.result in
          let inv : AreJudged before c.loop-judged.ends = c.loop-judged.invariant.judged earlier judged in
          let found : MatchOption c.in_ok-verdict.field-0 (AreJudged (before ++ chapter ∷ []) c.judge_next.new.ends) (TellsBad (before ++ chapter ∷ [])) = c.in_ok-verdict.ensures before inv in
          let now : AreJudged (before ++ chapter ∷ []) c.judge_next.new.ends = search rules in
          judged_in earlier cs c.loop-judged.place chapter below c.index-chapters-place.is c.judge_next.new.ends now;
    }

pub returns : goal.returns
returns c = λ earlier judged.
    let all = YieldsList-end (YieldsList-from_vec {s = c.into_iter-judged-iterator.result} c.args.answers.items (search rules) (search rules)) c.loop-judged.yielded c.loop-judged.judged-iterator c.loop-judged.yielded_by c.next.result c.next.new.self c.in-None.is c.next.ensures.steps in
    all_judged earlier c.args.chapters.now c.loop-judged.place _ (omega (arith, c.loop-judged.invariant.at, all.1, as_many c.args.chapters.now c.args.answers.items c.requires.answers)) (c.loop-judged.invariant.judged earlier judged)
