use Rattle.std.proofs.Common.{arith, rules, subst, ◌≡◌}
use Rattle.pon_history.specs.Chapters.{cut_at}
use Rattle.pon_history.specs.Taking.{IsKept}
use Rattle.pon_history.proofs.Kept.{kept_frames, none_yet, one_further}
use Rattle.pon_why.specs.Lasts.{chapter_with}
use Rattle.pon_why.proofs.Retaking.{follows_here}
use Rattle.pon_why.proofs.retake.state_before.Goals as goal

pub loop-index-init : goal.loop-index-init
loop-index-init c =
    let chapter = chapter_with c.requires.lawful.0 c.args.opening.now c.args.entries.now in
    (c.requires.lawful.0, c.requires.lawful.1, none_yet chapter c.in_ok-state.state c.requires.lawful.1.opening (search rules))

pub retake-requires : goal.retake-requires
retake-requires c =
    let number = c.loop-index.invariant.0 in
    let lawful = c.loop-index.invariant.1 in
    let kept = c.loop-index.invariant.2 in
    let chapter = chapter_with number c.args.opening.now c.args.entries.now in
    record {
      follows = follows_here chapter c.loop-index.index c.loop-index.state c.index-entries-index.result lawful (omega arith) (search rules) kept;
      admitted = kept.admitted;
      carries = kept.carries;
      book = kept.book;
      frames = kept_frames _ c.loop-index.state kept;
    }

pub loop-index-preserved : goal.loop-index-preserved
loop-index-preserved c =
    let number = c.loop-index.invariant.0 in
    let lawful = c.loop-index.invariant.1 in
    let kept = c.loop-index.invariant.2 in
    let chapter = chapter_with number c.args.opening.now c.args.entries.now in
    let follows = follows_here chapter c.loop-index.index c.loop-index.state c.index-entries-index.result lawful (search rules) (search rules) kept in
    (number, lawful, one_further chapter c.loop-index.index c.loop-index.state c.retake.new.state c.index-entries-index.result (search rules) (search rules) kept follows (search rules))

pub returns : goal.returns
returns c =
    let chapter = chapter_with c.loop-index.invariant.0 c.args.opening.now c.args.entries.now in
    let all : c.loop-index.index ≡ c.args.end = omega arith in
    (c.loop-index.invariant.0, c.loop-index.invariant.1, subst (λ n. IsKept (cut_at chapter n) c.loop-index.state) all c.loop-index.invariant.2)
