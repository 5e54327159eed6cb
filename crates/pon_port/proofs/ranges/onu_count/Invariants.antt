use Rattle.std.proofs.Common.{◌≡◌, ◌≤◌, length, take}
use Rattle.pon_units.specs.Granted.{onus_granted}
use Rattle.pon_port.proofs.ranges.onu_count.Given as goal

abbrev pub invariant-loop-place : goal.invariant-loop-place
invariant-loop-place l = record { counted : l.count ≡ length (onus_granted (take l.place l.grants)); few : l.count ≤ l.place }
