use Rattle.std.proofs.Common.{◌≡◌, length}
use Rattle.pon_device.specs.Device.{Keeps}
use Rattle.pon_joined.specs.States.{left_in}
use Rattle.pon_joined.proofs.joined.JoinedDevRead.read.Given as goal

-- no byte was given so far
abbrev pub invariant-loop-step : goal.invariant-loop-step
invariant-loop-step g l = record {
  kept : Keeps (left_in g.R.DevRead.remaining g.S.NextFile.contents l.initial.self) (left_in g.R.DevRead.remaining g.S.NextFile.contents l.self);
  calls : l.self.calls ≡ l.initial.self.calls;
  failures : l.self.failures ≡ l.initial.self.failures;
  room : length l.buf ≡ length l.initial.buf;
}
