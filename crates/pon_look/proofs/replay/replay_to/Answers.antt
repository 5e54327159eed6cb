use Rattle.std.proofs.Common.{◌≡◌, arith, rules, subst}
use Rattle.pon_history.specs.Taking.{IsKept}
use Rattle.pon_history.proofs.Kept.{kept_frames, none_yet, one_further}
use Rattle.pon_audit.specs.Openings.{chapter_of}
use Rattle.pon_audit.specs.Faults.{EntryFails}
use Rattle.pon_history.specs.Chapters.{cut_at}
use Rattle.pon_audit.proofs.Kept.{fails_here}
use Rattle.pon_look.proofs.replay.replay_to.Goals as goal

pub loop-index-init : goal.loop-index-init
loop-index-init c = none_yet (chapter_of c.args.chapter.now.body) c.args.replay.now.state c.requires.lawful c.requires.opened

pub take_entry-requires-clause-frames : goal.take_entry-requires-clause-frames
take_entry-requires-clause-frames c = kept_frames _ c.loop-index.replay.state c.loop-index.invariant

pub returns-in-Some : goal.returns-in-Some
returns-in-Some c =
    let fails : EntryFails c.loop-index.index c.loop-index.replay.state c.index-entry.result.now c.in-Some.field-0 = rw c.in-Some.is at c.in_ok-fault.ensures in
    (omega arith, (c.in-Some.field-0, fails_here (chapter_of c.args.chapter.now.body) c.loop-index.index c.loop-index.replay.state c.index-entry.result.now c.in-Some.field-0 (search rules) (search rules) c.loop-index.invariant fails))

pub loop-index-preserved : goal.loop-index-preserved
loop-index-preserved c =
    let told = rw c.in-None.is at c.in_ok-fault.ensures in
    one_further (chapter_of c.args.chapter.now.body) c.loop-index.index c.loop-index.replay.state c.take_entry.new.state c.index-entry.result.now (search rules) (search rules) c.loop-index.invariant told.0 told.1

pub returns : goal.returns
returns c =
    let all : c.loop-index.index ≡ c.args.end = omega arith in
    subst (λ n. IsKept (cut_at (chapter_of c.args.chapter.now.body) n) c.loop-index.replay.state) all c.loop-index.invariant
