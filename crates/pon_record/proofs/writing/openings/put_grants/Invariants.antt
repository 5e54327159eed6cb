use Rattle.std.proofs.Common.{◌≡◌, ◌++◌, take}
use Rattle.std.specs.List.{flat_map}
use Rattle.pon_record.specs.Openings.{grant}
use Rattle.pon_record.proofs.writing.openings.put_grants.Given as goal

abbrev pub invariant-loop-value : goal.invariant-loop-value
invariant-loop-value l = l.bytes.items ≡ l.initial.bytes.items ++ flat_map grant.write (take l.value-index l.values)
