use Rattle.std.proofs.Common.{◌≡◌, ◌+◌, ◌%◌, ◌^◌, ◌<◌}
use Rattle.pon_device.specs.Device.{Keeps}
use Rattle.pon_worker.proofs.receiving.pull.Given as goal

-- nothing was read so far, and each attempt failed
abbrev pub invariant-loop-try : goal.invariant-loop-try
invariant-loop-try g l = record {
  same : l.up ≡ l.initial.up;
  failed : g.R.DevRead.failures l.reader % 2 ^ 64 ≡ (g.R.DevRead.failures l.initial.reader + l._try) % 2 ^ 64;
  round : 0 < l._try → g.R.DevRead.failures l.reader < 2 ^ 64;
  kept : Keeps (g.R.DevRead.remaining l.initial.reader) (g.R.DevRead.remaining l.reader);
}
