use Rattle.std.proofs.Common.{◌≡◌, ℕ, ◌<◌, length, Some, inl, inr, refl, sym, ◌∙◌, ap, arith, below_more, true, false}
use Rattle.std.specs.Prelude.{slice_get, ◌==◌}
use Rattle.std.proofs.lemmas.Option.{slice_get_cases, slice_get_read}
use Rattle.pon_desk.specs.Settling.{IsRightChapter, PortHistory}
use Rattle.pon_desk.proofs.RightChapters.{Opens, absent, no_more_than, right_past, right_there}
use Rattle.pon_desk.proofs.settling.chapter_fault.Goals.{else-k-eq0-via-then-k-eq0+else-not-opens_as, else-k-eq0-via-else-k-eq0, else-is_empty-via-then-is_empty+else-not-opens_as-2, else-is_empty-via-else-is_empty}
use Rattle.pon_desk.proofs.settling.chapter_fault.Goals as goal

pub loop-k-preserved : goal.loop-k-preserved
loop-k-preserved c =
    let h : PortHistory = record { opened = c.args.opened.now; chapters = c.args.chapters.now; kept = c.args.kept.now } in
    let d = c.index-chapters-k.result in
    let at : slice_get h.chapters c.loop-k.k ≡ Some d = slice_get_read h.chapters _ c.loop-k.k d refl (omega arith) c.index-chapters-k.is in
    let below : c.loop-k.k < h.kept.number = omega (arith, c.chapter_number-last.ensures) in
    let number : d.number ≡ c.loop-k.k = omega (arith, c.number.ensures) in
    let opens : c.loop-k.k ≡ 0 → Opens h d.opening = elim c.else-k-eq0.branch [
      | else-k-eq0-via-then-k-eq0+else-not-opens_as w ↦ λ _. sym w.opening.ensures.opening ∙ w.if-not-opens_as.ensures.0 refl
      | else-k-eq0-via-else-k-eq0 w ↦ λ none. absurd (omega (arith, none, w.if-k-eq0.false))
    ] in
    below_more (IsRightChapter h) c.loop-k.k c.loop-k.invariant (right_there h c.loop-k.k d at below number opens)

pub returns-then-chapters-last : goal.returns-then-chapters-last
returns-then-chapters-last c =
    let h : PortHistory = record { opened = c.args.opened.now; chapters = c.args.chapters.now; kept = c.args.kept.now } in
    let fewer : length h.chapters < h.kept.number = omega (arith, c.chapter_number-last.ensures) in
    record {
      earlier = λ j below. c.loop-k.invariant j (omega (arith, below));
      wrong = absent h (length h.chapters) (omega arith) fewer;
    }

pub returns : goal.returns
returns c =
    let h : PortHistory = record { opened = c.args.opened.now; chapters = c.args.chapters.now; kept = c.args.kept.now } in
    let few = no_more_than h (λ j below. c.loop-k.invariant j (omega (arith, below))) in
    let all : length h.chapters ≡ h.kept.number = omega (arith, few, c.chapter_number-last.ensures) in
    let opens : length h.chapters ≡ 0 → Opens h h.kept.opening = elim c.else-is_empty.branch [
      | else-is_empty-via-then-is_empty+else-not-opens_as-2 w ↦ λ _. sym w.opening-then-is_empty.ensures.opening ∙ w.if-not-opens_as-2.ensures.0 refl
      | else-is_empty-via-else-is_empty w ↦ λ none. let t : false ≡ true = w.if-is_empty.ensures ∙ ap (λ (n : ℕ). n == 0) none in absurd cc
    ] in
    λ k. elim (slice_get_cases h.chapters k).1 [
      | inl s ↦ c.loop-k.invariant k (omega (arith, s.1))
      | inr p ↦ right_past h k all (omega (arith, all, p.0)) opens
    ]
