use Rattle.std.proofs.Common.{◌≡◌, ap, arith, length, rules}
use Rattle.pon_state.specs.After.{after_entry}
use Rattle.pon_state.specs.Legal.{MayFollow}
use Rattle.pon_history.proofs.Kept.{kept_frames, none_yet, one_further}
use Rattle.pon_audit.specs.Openings.{chapter_of}
use Rattle.pon_audit.specs.Faults.{EntryFails}
use Rattle.pon_audit.proofs.Kept.{all_taken, fails_here}
use Rattle.pon_audit.proofs.chapters.entry_fault.Goals as goal

pub loop-index-init : goal.loop-index-init
loop-index-init c = none_yet (chapter_of c.args.chapter.now.body) c.args.state.now c.requires.lawful c.requires.opened

pub take_entry-requires-clause-frames : goal.take_entry-requires-clause-frames
take_entry-requires-clause-frames c = kept_frames _ c.loop-index.state c.loop-index.invariant

pub returns-in-Some : goal.returns-in-Some
returns-in-Some c =
    let fails : EntryFails c.loop-index.index c.loop-index.state c.entry-item.result c.in-Some.why = search rules in
    fails_here (chapter_of c.args.chapter.now.body) c.loop-index.index c.loop-index.state c.entry-item.result c.in-Some.why (search rules) (search rules) c.loop-index.invariant fails

pub loop-index-preserved : goal.loop-index-preserved
loop-index-preserved c =
    let follows : MayFollow c.loop-index.index c.loop-index.state c.entry-item.result = search rules in
    let after : c.take_entry.new.state ≡ after_entry c.loop-index.state c.entry-item.result = search rules in
    one_further (chapter_of c.args.chapter.now.body) c.loop-index.index c.loop-index.state c.take_entry.new.state c.entry-item.result (search rules) (search rules) c.loop-index.invariant follows after

pub returns : goal.returns
returns c =
    let entries : c.deref-entry-items.result.now ≡ c.args.chapter.now.body.entries = search rules in
    all_taken (chapter_of c.args.chapter.now.body) c.loop-index.index c.loop-index.state (omega (arith, ap length entries)) c.loop-index.invariant
