use Rattle.std.proofs.Common.{◌≡◌, ◌≤◌}
use Rattle.pon_device.proofs.ReadCounts.{AfterReads}
use Rattle.pon_check_file.specs.Stages.{IsOpen, size}
use Rattle.pon_check_file.proofs.OpenLines.{Progress}
use Rattle.pon_check_file.proofs.reading.read_file.Given as goal

-- the bytes read so far and the open line, and no read has failed yet
abbrev pub invariant-loop-turn : goal.invariant-loop-turn
invariant-loop-turn g l = record {
  progress : Progress (g.R.DevRead.remaining l.initial.reader) (g.R.DevRead.remaining l.reader) l.open;
  is_open : IsOpen l.open;
  small : size l.open ≤ l._turn;
  reads : AfterReads l._turn (g.R.DevRead.calls l.initial.reader) (g.R.DevRead.calls l.reader);
  none_failed : g.R.DevRead.failures l.reader ≡ g.R.DevRead.failures l.initial.reader;
}
