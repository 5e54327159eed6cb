use Rattle.std.proofs.Common.{◌≡◌, ◌-◌, false, length}
use Rattle.pon_device.specs.Device.{Consumes}
use Rattle.pon_link.specs.Reading.{longest}
use Rattle.pon_link.specs.declared.direction.Direction.TheVariants.{Up}
use Rattle.pon_worker.proofs.receiving.receive.Given as goal

-- the bytes read so far are held
abbrev pub invariant-loop-record : goal.invariant-loop-record
invariant-loop-record g l = record {
  up : l.up.direction ≡ Up;
  open_end : l.up.ended ≡ false;
  held : Consumes (g.R.DevRead.remaining l.initial.reader) (g.R.DevRead.remaining l.reader) l.up.held;
}

-- the bytes that the longest record has more than those
abbrev pub decreases-loop-record : goal.decreases-loop-record
decreases-loop-record g l = longest Up - length l.up.held
