use Rattle.std.proofs.Common.{ℕ, ap, subst}
use Rattle.pon_desk.specs.Counts.{DeskSize}
use Rattle.pon_worker.specs.Turns.{EndsAs, PostsAt, PostsEnd, no_counts}
use Rattle.pon_worker.proofs.Passed.{passes_keeps, passes_then}
use Rattle.pon_worker.proofs.Posted.{posts_end}
use Rattle.pon_worker.proofs.serving.serve_port.Goals as goal

pub returns-clause-ended : goal.returns-clause-ended
returns-clause-ended g c =
    let end = c.make_turns-end.result in
    let old = c.args.seat.now in
    let mid = c.make_turns-end.new.seat in
    let at_desk = ap (λ (d : DeskSize). d.ports) c.new-served.ensures.desk in
    let wrote = g.W.DevWrite.contents c.args.writer.now in
    let writes = g.W.DevWrite.contents c.make_turns-end.new.writer in
    let reads = g.R.DevRead.remaining c.args.reader.now in
    let left = g.R.DevRead.remaining c.make_turns-end.new.reader in
    let ended = subst (λ (ports : ℕ). EndsAs c.new-served.result.port ports end.why no_counts end.counts old mid wrote writes reads left) at_desk c.make_turns-end.ensures.ended in (
      mid,
      subst (λ (port : ℕ). EndsAs port c.args.desk.now.ports end.why no_counts end.counts old mid wrote writes reads left) c.new-served.ensures.port ended,
      subst (λ (port : ℕ). PostsEnd port end.why mid c.give_up.new.seat) c.new-served.ensures.port c.give_up.ensures.posts,
    )

pub returns-clause-posts : goal.returns-clause-posts
returns-clause-posts g c =
    let end = c.make_turns-end.result in
    let old = c.args.seat.now in
    let mid = c.make_turns-end.new.seat in
    posts_end c.args.port end.why old mid c.give_up.new.seat no_counts end.counts
    (subst (λ (port : ℕ). PostsAt port 0 old mid no_counts end.counts) c.new-served.ensures.port c.make_turns-end.ensures.posts)
    (subst (λ (port : ℕ). PostsEnd port end.why mid c.give_up.new.seat) c.new-served.ensures.port c.give_up.ensures.posts)

pub returns-clause-sink : goal.returns-clause-sink
returns-clause-sink g c = passes_then c.args.sink.now c.make_turns-end.new.sink c.give_up.new.sink c.make_turns-end.ensures.sink c.give_up.ensures.sink

pub returns-clause-ring : goal.returns-clause-ring
returns-clause-ring g c =
    passes_keeps c.args.sink.now c.give_up.new.sink (passes_then c.args.sink.now c.make_turns-end.new.sink c.give_up.new.sink c.make_turns-end.ensures.sink c.give_up.ensures.sink)
