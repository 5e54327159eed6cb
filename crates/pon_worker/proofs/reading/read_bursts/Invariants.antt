use Rattle.std.proofs.Common.{◌≡◌, []}
use Rattle.pon_link.specs.Reading.{empty}
use Rattle.pon_link.specs.declared.direction.Direction.TheVariants.{Up}
use Rattle.pon_worker.specs.Passing.{PassesChapters}
use Rattle.pon_worker.specs.Turns.{CoversCounts, PostsAt}
use Rattle.pon_worker.proofs.Bursts.{ReadSoFar}
use Rattle.pon_worker.proofs.reading.read_bursts.Given as goal

-- the bursts so far are read and counted, and no byte of the next one is read
abbrev pub invariant-loop-burst : goal.invariant-loop-burst
invariant-loop-burst g l = record {
  empty_again : l.work.up ≡ empty Up;
  so_far : ReadSoFar l.served.port l._burst [] l.initial.work.counts l.work.counts l.initial.seat.receipts l.seat.receipts (g.R.DevRead.remaining l.initial.reader) (g.R.DevRead.remaining l.reader);
  maps : l.work.counts.maps ≡ l.initial.work.counts.maps;
  posts : PostsAt l.served.port 0 l.initial.seat l.seat l.initial.work.counts l.work.counts;
  sink : PassesChapters l.initial.sink l.sink;
  fits : CoversCounts l.served.port l.seat l.work.counts;
}
