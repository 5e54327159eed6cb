use Rattle.std.proofs.Common.{◌≡◌, ◌+◌, ◌<◌, List, ap, arith, drop, length, rules, ℕ}
use Rattle.std.proofs.lemmas.List.{length-drop, nil_from_length}
use Rattle.pon_record.proofs.CountedChapters.{all_counted, no_fault, one_counted}
use Rattle.pon_record.proofs.counting.chapter_count.Goals as goal

pub returns-in_default : goal.returns-in_default
returns-in_default c = λ chapters is.
    let some : 0 < length c.loop-rest.rest.now = search rules in
    absurd (no_fault is.0 c.loop-rest.rest.now c.loop-rest.count chapters _ some c.in_default.ensures (c.loop-rest.invariant.counted is.0 chapters is.2))

pub loop-rest-preserved : goal.loop-rest-preserved
loop-rest-preserved c =
    let rest = c.loop-rest.rest.now in
    let size = 5 + length c.in-Ok.body.now in
    let after : c.split_at.result.1.now ≡ drop size rest = search rules in
    record {
      few = omega (arith, c.loop-rest.invariant.few, c.in-Ok.ensures.within, ap (λ (l : List ℕ). length l) after, length-drop size rest);
      counted = λ v chapters is. one_counted v rest c.in-Ok.body.now c.split_at.result.1.now c.loop-rest.count chapters c.in-Ok.ensures after (c.loop-rest.invariant.counted v chapters is);
    }

pub returns : goal.returns
returns c = λ chapters is.
    let none : length c.loop-rest.rest.now ≡ 0 = search rules in
    all_counted is.0 c.loop-rest.rest.now c.loop-rest.count chapters (nil_from_length c.loop-rest.rest.now none) (c.loop-rest.invariant.counted is.0 chapters is.2)
