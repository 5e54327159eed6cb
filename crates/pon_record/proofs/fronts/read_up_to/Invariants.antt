use Rattle.std.proofs.Common.{◌≡◌, ◌-◌, length}
use Rattle.pon_record.proofs.ChapterFronts.{Grows}
use Rattle.pon_record.proofs.fronts.read_up_to.Given as goal

-- the bytes so far, and no read has failed
abbrev pub invariant-loop-buffer : goal.invariant-loop-buffer
invariant-loop-buffer g l = record {
  grows : Grows l.initial.buffer.items l.buffer.items l.size (g.R.DevRead.remaining l.initial.reader) (g.R.DevRead.remaining l.reader);
  none_failed : g.R.DevRead.failures l.reader ≡ g.R.DevRead.failures l.initial.reader;
}

abbrev pub decreases-loop-buffer : goal.decreases-loop-buffer
decreases-loop-buffer g l = l.size - length l.buffer.items
