use Rattle.std.proofs.Common.{List, [], ◌∷◌, ◌++◌, ℕ, ◌≡◌, refl, sym, ap, subst, ◌∙◌, arith, length-append}
use Rattle.pon_link.specs.Reading.{ReaderState}
use Rattle.pon_worker.specs.Records.{HasRead}
use Rattle.pon_descr.specs.declared.refusal.Refusal.TheVariants.{OutOfMemory}
use Rattle.pon_desk.specs.Counts.{SeatState}
use Rattle.pon_worker.specs.Turns.{KeepsAll}
use Rattle.pon_worker.proofs.Bursts.{none_so_far, so_far_counted, so_far_lacks, so_far_more, so_far_part, so_far_read, so_far_refused}
use Rattle.pon_worker.proofs.Passed.{passes_none, passes_then}
use Rattle.pon_worker.proofs.Posted.{posts_fit, posts_more, posts_none}
use Rattle.pon_worker.proofs.reading.read_bursts.Goals as goal

pub loop-burst-init : goal.loop-burst-init
loop-burst-init g c = record {
  empty_again = c.requires.empty;
  so_far = none_so_far c.args.served.now.port c.args.work.now.counts c.args.seat.now.receipts (g.R.DevRead.remaining c.args.reader.now) c.prove_in_range.ensures.garbled c.prove_in_range.ensures.unowned c.prove_in_range.ensures.refused;
  maps = refl;
  posts = posts_none c.args.served.now.port c.args.seat.now c.args.work.now.counts c.args.work.now.counts refl refl;
  sink = passes_none c.args.sink.now c.args.sink.now refl refl;
  fits = c.requires.posts;
}

pub receive-requires : goal.receive-requires
receive-requires g c = c.loop-burst.invariant.empty_again

pub post_record-requires : goal.post_record-requires
post_record-requires g c = record { port = c.requires.port; posts = c.loop-burst.invariant.fits }

pub returns-in-Err-clause-read : goal.returns-in-Err-clause-read
returns-in-Err-clause-read g c =
    let left = g.R.DevRead.remaining c.args.reader.now in
    let far = c.loop-burst.invariant.so_far in
    let read = so_far_part c.args.served.now.port c.loop-burst._burst c.receive.new.up.held c.args.work.now.counts c.loop-burst.work.counts c.args.seat.now.receipts c.loop-burst.seat.receipts left (g.R.DevRead.remaining c.loop-burst.reader) (g.R.DevRead.remaining c.receive.new.reader) far c.in-Err.ensures.err.1 in
    record { records = far.records; reports = far.reports; refusals = far.refusals; takes = far.takes; counted = far.counted; read = read; kept = far.kept; ends = (omega (arith, far.size, c.loop-burst-test.true), far.memory, c.in-Err.ensures.err.0) }

pub returns-in-Err-clause-maps : goal.returns-in-Err-clause-maps
returns-in-Err-clause-maps g c = c.loop-burst.invariant.maps

pub returns-in-Err-clause-posts : goal.returns-in-Err-clause-posts
returns-in-Err-clause-posts g c = c.loop-burst.invariant.posts

pub loop-burst-preserved : goal.loop-burst-preserved
loop-burst-preserved g c =
    let far = c.loop-burst.invariant in
    let got = c.in-Ok.ensures.ok in
    let posted = c.if-not-post_record.ensures.counted in record {
      empty_again = c.in-Ok.ensures.empty;
      so_far = so_far_more c.args.served.now.port c.loop-burst._burst c.in-Ok.burst got.0 posted.reports posted.refusals c.args.work.now.counts c.loop-burst.work.counts c.post_record.new.counts c.args.seat.now.receipts c.loop-burst.seat.receipts c.post_record.new.seat.receipts (g.R.DevRead.remaining c.args.reader.now) (g.R.DevRead.remaining c.loop-burst.reader) (g.R.DevRead.remaining c.receive.new.reader) far.so_far got.1 got.2 posted.takes posted.memory posted.counted posted.kept;
      maps = c.post_record.ensures.maps ∙ far.maps;
      posts = posts_more c.args.served.now.port 0 0 c.args.seat.now c.loop-burst.seat c.post_record.new.seat c.args.work.now.counts c.loop-burst.work.counts c.post_record.new.counts far.posts c.post_record.ensures.posts;
      sink = passes_then c.args.sink.now c.loop-burst.sink c.post_record.new.sink far.sink c.post_record.ensures.sink;
      fits = posts_fit c.args.served.now.port c.loop-burst.seat c.post_record.new.seat c.loop-burst.work.counts c.post_record.new.counts c.post_record.ensures.posts far.fits;
    }

pub returns-clause-read : goal.returns-clause-read
returns-clause-read g c =
    let far = c.loop-burst.invariant in
    let all = far.so_far in
    let none = sym (ap (λ (s : ReaderState). s.held) far.empty_again) in
    let number : c.loop-burst._burst ≡ c.args.bursts = omega (arith, c.loop-burst.auto._burst-end, c.loop-burst-test.false) in
    record {
      records = all.records;
      reports = all.reports;
      refusals = all.refusals;
      takes = all.takes;
      counted = all.counted;
      read = subst (λ (t : List ℕ). HasRead all.records t (g.R.DevRead.remaining c.args.reader.now) (g.R.DevRead.remaining c.loop-burst.reader)) none all.read;
      kept = all.kept;
      ends = (all.size ∙ number, all.memory);
    }

pub returns-clause-maps : goal.returns-clause-maps
returns-clause-maps g c = c.loop-burst.invariant.maps

pub returns-clause-posts : goal.returns-clause-posts
returns-clause-posts g c = c.loop-burst.invariant.posts

pub returns-in-Err-clause-sink : goal.returns-in-Err-clause-sink
returns-in-Err-clause-sink g c = c.loop-burst.invariant.sink

pub returns-clause-sink : goal.returns-clause-sink
returns-clause-sink g c = c.loop-burst.invariant.sink

pub returns-clause-all : goal.returns-clause-all
returns-clause-all g c = c.loop-burst.invariant.empty_again

pub returns-then-not-post_record-clause-read : goal.returns-then-not-post_record-clause-read
returns-then-not-post_record-clause-read g c =
    let far = c.loop-burst.invariant.so_far in
    let got = c.in-Ok.ensures.ok in
    let lacks = c.if-not-post_record.ensures.counted in
    let kept = c.args.seat.now.receipts in
    let old = g.R.DevRead.remaining c.args.reader.now in
    let mid = g.R.DevRead.remaining c.loop-burst.reader in
    let new = g.R.DevRead.remaining c.receive.new.reader in
    let counts = c.args.work.now.counts in
    let number = c.loop-burst._burst in
    let burst = c.in-Ok.burst in
    let held = ap (λ (s : ReaderState). s.held) c.in-Ok.ensures.empty in record {
      records = far.records ++ burst ∷ [];
      reports = far.reports;
      refusals = far.refusals ++ OutOfMemory ∷ [];
      takes = so_far_refused c.args.served.now.port number burst kept c.loop-burst.seat.receipts counts c.loop-burst.work.counts old mid far lacks.refused;
      counted = so_far_counted c.args.served.now.port number burst kept c.loop-burst.seat.receipts counts c.loop-burst.work.counts c.post_record.new.counts old mid far lacks.counted;
      read = subst (λ (t : List ℕ). HasRead (far.records ++ burst ∷ []) t old new) (sym held) (so_far_read c.args.served.now.port number burst got.0 kept c.loop-burst.seat.receipts counts c.loop-burst.work.counts old mid new far got.1 got.2);
      kept = subst (λ (s : SeatState). KeepsAll kept far.reports s.receipts) (sym lacks.same) far.kept;
      ends = (refl, omega (arith, far.size, c.loop-burst-test.true, length-append far.records (burst ∷ [])), held, so_far_lacks c.args.served.now.port number burst kept c.loop-burst.seat.receipts counts c.loop-burst.work.counts old mid far lacks.refused);
    }

pub returns-then-not-post_record-clause-maps : goal.returns-then-not-post_record-clause-maps
returns-then-not-post_record-clause-maps g c = c.post_record.ensures.maps ∙ c.loop-burst.invariant.maps

pub returns-then-not-post_record-clause-posts : goal.returns-then-not-post_record-clause-posts
returns-then-not-post_record-clause-posts g c =
    posts_more c.args.served.now.port 0 0 c.args.seat.now c.loop-burst.seat c.post_record.new.seat c.args.work.now.counts c.loop-burst.work.counts c.post_record.new.counts c.loop-burst.invariant.posts c.post_record.ensures.posts

pub returns-then-not-post_record-clause-sink : goal.returns-then-not-post_record-clause-sink
returns-then-not-post_record-clause-sink g c = passes_then c.args.sink.now c.loop-burst.sink c.post_record.new.sink c.loop-burst.invariant.sink c.post_record.ensures.sink
