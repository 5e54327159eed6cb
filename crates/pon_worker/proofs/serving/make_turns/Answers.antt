use Rattle.std.proofs.Common.{refl, sym, ap, subst, arith}
use Rattle.pon_worker.specs.Turns.{EndsAs, PostsAt, Turned, no_counts}
use Rattle.pon_worker.specs.declared.counts.PortCounts.{PortCounts}
use Rattle.pon_worker.proofs.Passed.{passes_none, passes_then}
use Rattle.pon_worker.proofs.Posted.{posts_fit, posts_more, posts_none}
use Rattle.pon_worker.proofs.Works.{ends_more, ends_with, turned_more, turned_none}
use Rattle.pon_worker.proofs.serving.make_turns.Goals.{in-None, in-Some+then-not-next, in-Some+else-not-next+in-Err}
use Rattle.pon_worker.proofs.serving.make_turns.Goals as goal

pub loop-init : goal.loop-init
loop-init g c =
    let none = sym c.new-work.ensures.counts in
    let start = turned_none c.args.served.now.port no_counts c.args.seat.now (g.W.DevWrite.contents c.args.writer.now) (g.R.DevRead.remaining c.args.reader.now) (omega arith) (omega arith) (omega arith) in record {
      why = refl;
      empty_again = c.new-work.ensures.up;
      turned = subst (λ (k : PortCounts). Turned c.args.served.now.port no_counts k c.args.seat.now c.args.seat.now (g.W.DevWrite.contents c.args.writer.now) (g.W.DevWrite.contents c.args.writer.now) (g.R.DevRead.remaining c.args.reader.now) (g.R.DevRead.remaining c.args.reader.now)) none start;
      posts = subst (λ (k : PortCounts). PostsAt c.args.served.now.port 0 c.args.seat.now c.args.seat.now no_counts k) none (posts_none c.args.served.now.port c.args.seat.now no_counts no_counts refl refl);
      sink = passes_none c.args.sink.now c.args.sink.now refl refl;
      fits = omega (arith, ap (λ (k : PortCounts). k.maps) c.new-work.ensures.counts, ap (λ (k : PortCounts). k.reports) c.new-work.ensures.counts);
    }

pub turn-requires-clause-empty : goal.turn-requires-clause-empty
turn-requires-clause-empty g c = c.loop.invariant.empty_again

pub turn-requires-clause-posts : goal.turn-requires-clause-posts
turn-requires-clause-posts g c = c.loop.invariant.fits

pub loop-preserved : goal.loop-preserved
loop-preserved g c =
    let far = c.loop.invariant in record {
      why = far.why;
      empty_again = c.in-Ok.ensures.empty;
      turned = turned_more c.args.served.now.port no_counts c.loop.work.counts c.turn.new.work.counts c.args.seat.now c.loop.seat c.turn.new.seat (g.W.DevWrite.contents c.args.writer.now) (g.W.DevWrite.contents c.loop.writer) (g.W.DevWrite.contents c.turn.new.writer) (g.R.DevRead.remaining c.args.reader.now) (g.R.DevRead.remaining c.loop.reader) (g.R.DevRead.remaining c.turn.new.reader) far.turned c.in-Ok.ensures.turned;
      posts = posts_more c.args.served.now.port 0 0 c.args.seat.now c.loop.seat c.turn.new.seat no_counts c.loop.work.counts c.turn.new.work.counts far.posts c.turn.ensures.posts;
      sink = passes_then c.args.sink.now c.loop.sink c.turn.new.sink far.sink c.turn.ensures.sink;
      fits = posts_fit c.args.served.now.port c.loop.seat c.turn.new.seat c.loop.work.counts c.turn.new.work.counts c.turn.ensures.posts far.fits;
    }

pub returns-clause-ended : goal.returns-clause-ended
returns-clause-ended g c =
    let far = c.loop.invariant in
    let port = c.args.served.now.port in
    let ports = c.args.served.now.desk.now.ports in
    let old = c.args.seat.now in
    let wrote = g.W.DevWrite.contents c.args.writer.now in
    let writes = g.W.DevWrite.contents c.match-next.writer in
    let reads = g.R.DevRead.remaining c.args.reader.now in
    let left = g.R.DevRead.remaining c.match-next.reader in
    let ended : EndsAs port ports c.match-next.why no_counts c.match-next.work.counts old c.match-next.seat wrote writes reads left = elim c.match-next.branch [
      | in-None w ↦ rw (w.why-is, far.why, w.work-is, w.seat-is, w.writer-is, w.reader-is) far.turned
      | in-Some+then-not-next w ↦ rw (w.why-is, far.why, w.work-is, w.seat-is, w.writer-is, w.reader-is) far.turned
      | in-Some+else-not-next+in-Err w ↦
          rw (w.why-is, w.work-is, w.seat-is, w.writer-is, w.reader-is)
          (ends_more port ports w.in-Err.ended no_counts c.loop.work.counts w.turn.new.work.counts old c.loop.seat w.turn.new.seat wrote (g.W.DevWrite.contents c.loop.writer) (g.W.DevWrite.contents w.turn.new.writer) reads (g.R.DevRead.remaining c.loop.reader) (g.R.DevRead.remaining w.turn.new.reader) far.turned w.in-Err.ensures.ended)
    ] in
    ends_with port ports c.match-next.why c.end.result.why no_counts c.match-next.work.counts c.end.result.counts old c.match-next.seat wrote writes reads left c.end.ensures.why c.end.ensures.counts ended

pub returns-clause-posts : goal.returns-clause-posts
returns-clause-posts g c =
    let far = c.loop.invariant in
    let port = c.args.served.now.port in
    let old = c.args.seat.now in
    let posts : PostsAt port 0 old c.match-next.seat no_counts c.match-next.work.counts = elim c.match-next.branch [
      | in-None w ↦ rw (w.seat-is, w.work-is) far.posts
      | in-Some+then-not-next w ↦ rw (w.seat-is, w.work-is) far.posts
      | in-Some+else-not-next+in-Err w ↦ rw (w.seat-is, w.work-is) (posts_more port 0 0 old c.loop.seat w.turn.new.seat no_counts c.loop.work.counts w.turn.new.work.counts far.posts w.turn.ensures.posts)
    ] in
    subst (λ (k : PortCounts). PostsAt port 0 old c.match-next.seat no_counts k) (sym c.end.ensures.counts) posts

pub returns-clause-sink : goal.returns-clause-sink
returns-clause-sink g c =
    let far = c.loop.invariant in
    elim c.match-next.branch [
      | in-None w ↦ rw w.sink-is far.sink
      | in-Some+then-not-next w ↦ rw w.sink-is far.sink
      | in-Some+else-not-next+in-Err w ↦ rw w.sink-is (passes_then c.args.sink.now c.loop.sink w.turn.new.sink far.sink w.turn.ensures.sink)
    ]
