use Rattle.std.proofs.Common.{◌≡◌, ◌-◌, ◌≤◌, take, length}
use Rattle.pon_device.specs.Device.{Appends}
use Rattle.pon_device.proofs.traits.write_all.Given as goal

-- the bytes written so far
abbrev pub invariant-loop-at : goal.invariant-loop-at
invariant-loop-at g l = record {
  inside : l.at ≤ length l.bytes;
  sent : Appends (g.W.DevWrite.contents l.initial.writer) (g.W.DevWrite.contents l.writer) (take l.at l.bytes);
  well : g.W.DevWrite.failures l.writer ≡ g.W.DevWrite.failures l.initial.writer;
}

abbrev pub decreases-loop-at : goal.decreases-loop-at
decreases-loop-at g l = length l.bytes - l.at
