use Rattle.std.proofs.Common.{◌≡◌, ◌∙◌, ap, refl, arith, length, rules, subst, sym}
use Rattle.pon_history.proofs.Kept.{kept_frames, none_yet, one_further}
use Rattle.pon_audit.specs.Openings.{chapter_of}
use Rattle.pon_audit.specs.Judging.{FailsLater, IsJudgment}
use Rattle.pon_audit.proofs.Kept.{all_taken, ended, fails_here}
use Rattle.pon_sold.specs.Chapters.{watch_over}
use Rattle.pon_why.specs.Sums.{plus}
use Rattle.pon_why.proofs.SumLaws.{plus_none}
use Rattle.pon_look.specs.Sums.{sums_of}
use Rattle.pon_look.specs.Tallies.{tally_sums, tally_watch}
use Rattle.pon_look.proofs.Selling.{ended_sold, with_sold}
use Rattle.pon_look.proofs.Tallying.{ended_with, with_entry}
use Rattle.pon_look.proofs.tally.tally_chapter.Goals as goal

pub loop-index-init : goal.loop-index-init
loop-index-init c =
    let opened = rw c.in-Some.is at c.in_ok-replay.ensures in
    record {
      opens = opened.0;
      kept = none_yet (chapter_of c.args.chapter.now.body) c.in-Some.replay.state opened.0 opened.1;
      sums = λ i. sym (plus_none (tally_sums c.args.tally.now i));
      sold = λ i. refl;
    }

pub tally_entry-requires-clause-frames : goal.tally_entry-requires-clause-frames
tally_entry-requires-clause-frames c = kept_frames _ c.loop-index.replay.state c.loop-index.invariant.kept

pub returns-in-Stops-clause-sums : goal.returns-in-Stops-clause-sums
returns-in-Stops-clause-sums c =
    let tallied = rw c.in-Stops.is at c.in_ok-tally_entry.ensures.tallied in
    let sums = ended_with c.args.range.now (chapter_of c.args.chapter.now.body) c.loop-index.index c.entry-item.result c.loop-index.replay.state (search rules) (search rules) c.loop-index.invariant.kept
    (tally_sums c.args.tally.now) (tally_sums c.loop-index.tally) (tally_sums c.tally_entry.new.tally) c.loop-index.invariant.sums c.in-Stops.added tallied.1 in
    λ i. sums i ∙ ap (λ n. plus (tally_sums c.args.tally.now i) (sums_of c.args.range.now i (chapter_of c.args.chapter.now.body) n)) (sym (ap (λ t. t.entries) c.ended.ensures))

pub returns-in-Stops-clause-judged : goal.returns-in-Stops-clause-judged
returns-in-Stops-clause-judged c =
    let tallied = rw c.in-Stops.is at c.in_ok-tally_entry.ensures.tallied in
    let fails : FailsLater c.args.chapter.now (record { index = c.loop-index.index; why = c.in-Stops.why }) = record {
      opens = c.loop-index.invariant.opens;
      entry = fails_here (chapter_of c.args.chapter.now.body) c.loop-index.index c.loop-index.replay.state c.entry-item.result c.in-Stops.why (search rules) (search rules) c.loop-index.invariant.kept tallied.0;
    } in
    subst (IsJudgment c.args.chapter.now) (sym (ap (λ t. t.judged) c.ended.ensures)) fails

pub returns-clause-judged : goal.returns-clause-judged
returns-clause-judged c =
    let entries : c.deref-entry-items.result.now ≡ c.args.chapter.now.body.entries = search rules in
    ended c.args.chapter.now c.loop-index.replay.state (all_taken (chapter_of c.args.chapter.now.body) c.loop-index.index c.loop-index.replay.state (omega (arith, ap length entries)) c.loop-index.invariant.kept)

pub loop-index-preserved : goal.loop-index-preserved
loop-index-preserved c =
    let tallied = rw c.in-Follows.is at c.in_ok-tally_entry.ensures.tallied in
    record {
      opens = c.loop-index.invariant.opens;
      kept = one_further (chapter_of c.args.chapter.now.body) c.loop-index.index c.loop-index.replay.state c.tally_entry.new.replay.state c.entry-item.result (search rules) (search rules) c.loop-index.invariant.kept tallied.0 tallied.1;
      sums = with_entry c.args.range.now (chapter_of c.args.chapter.now.body) c.loop-index.index c.entry-item.result c.loop-index.replay.state (search rules) (search rules) c.loop-index.invariant.kept
          (tally_sums c.args.tally.now) (tally_sums c.loop-index.tally) (tally_sums c.tally_entry.new.tally) c.loop-index.invariant.sums tallied.2;
      sold = with_sold c.args.range.now (chapter_of c.args.chapter.now.body) c.loop-index.index c.entry-item.result c.loop-index.replay.state (search rules) (search rules) c.loop-index.invariant.kept
          (tally_watch c.args.tally.now) (tally_watch c.loop-index.tally) (tally_watch c.tally_entry.new.tally) c.loop-index.invariant.sold (rw c.in-Follows.is at c.in_ok-tally_entry.ensures.sold);
    }

pub returns-in-Stops-clause-sold : goal.returns-in-Stops-clause-sold
returns-in-Stops-clause-sold c =
    let watched = rw c.in-Stops.is at c.in_ok-tally_entry.ensures.sold in
    let sold = ended_sold c.args.range.now (chapter_of c.args.chapter.now.body) c.loop-index.index c.entry-item.result c.loop-index.replay.state (search rules) (search rules) c.loop-index.invariant.kept
    (tally_watch c.args.tally.now) (tally_watch c.loop-index.tally) (tally_watch c.tally_entry.new.tally) c.loop-index.invariant.sold c.in-Stops.added watched in
    λ i. sold i ∙ ap (watch_over c.args.range.now.first c.args.range.now.last i (chapter_of c.args.chapter.now.body) (tally_watch c.args.tally.now i)) (sym (ap (λ t. t.entries) c.ended.ensures))

pub returns-clause-sums : goal.returns-clause-sums
returns-clause-sums c =
    let entries : c.deref-entry-items.result.now ≡ c.args.chapter.now.body.entries = search rules in
    let count : c.len-entries.result ≡ length c.args.chapter.now.body.entries = search rules in
    let same : c.loop-index.index ≡ c.len-entries.result = omega (arith, ap length entries, count) in
    λ i. c.loop-index.invariant.sums i ∙ ap (λ n. plus (tally_sums c.args.tally.now i) (sums_of c.args.range.now i (chapter_of c.args.chapter.now.body) n)) same

pub returns-clause-sold : goal.returns-clause-sold
returns-clause-sold c =
    let entries : c.deref-entry-items.result.now ≡ c.args.chapter.now.body.entries = search rules in
    let count : c.len-entries.result ≡ length c.args.chapter.now.body.entries = search rules in
    let same : c.loop-index.index ≡ c.len-entries.result = omega (arith, ap length entries, count) in
    λ i. c.loop-index.invariant.sold i ∙ ap (watch_over c.args.range.now.first c.args.range.now.last i (chapter_of c.args.chapter.now.body) (tally_watch c.args.tally.now i)) same
