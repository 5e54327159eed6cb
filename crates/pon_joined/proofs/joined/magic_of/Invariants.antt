use Rattle.std.proofs.Common.{◌-◌, ◌≤◌, length}
use Rattle.pon_device.specs.Device.{Consumes}
use Rattle.pon_record.specs.declared.limits.TheConstants.{MAGIC_BYTES}
use Rattle.pon_joined.proofs.joined.magic_of.Given as goal

-- the bytes read so far
abbrev pub invariant-loop-reader : goal.invariant-loop-reader
invariant-loop-reader g l = record {
  taken : Consumes (g.R.DevRead.remaining l.initial.reader) (g.R.DevRead.remaining l.reader) l.magic.items;
  most : length l.magic.items ≤ MAGIC_BYTES;
}

abbrev pub decreases-loop-reader : goal.decreases-loop-reader
decreases-loop-reader g l = MAGIC_BYTES - length l.magic.items
