use Rattle.std.proofs.Common.{◌≡◌}
use Rattle.pon_link.specs.Reading.{empty}
use Rattle.pon_link.specs.declared.direction.Direction.TheVariants.{Up}
use Rattle.pon_worker.specs.Passing.{PassesChapters}
use Rattle.pon_worker.specs.Turns.{CoversCounts, PostsAt, Turned, no_counts}
use Rattle.pon_worker.specs.declared.counts.StopReason.TheVariants.{Finished}
use Rattle.pon_worker.proofs.serving.make_turns.Given as goal

-- all turns so far are whole
abbrev pub invariant-loop : goal.invariant-loop
invariant-loop g l = record {
  why : l.why ≡ Finished;
  empty_again : l.work.up ≡ empty Up;
  turned : Turned l.served.port no_counts l.work.counts l.initial.seat l.seat (g.W.DevWrite.contents l.initial.writer) (g.W.DevWrite.contents l.writer) (g.R.DevRead.remaining l.initial.reader) (g.R.DevRead.remaining l.reader);
  posts : PostsAt l.served.port 0 l.initial.seat l.seat no_counts l.work.counts;
  sink : PassesChapters l.initial.sink l.sink;
  fits : CoversCounts l.served.port l.seat l.work.counts;
}
