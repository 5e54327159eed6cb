use Rattle.std.proofs.Common.{◌≡◌, ◌++◌, take}
use Rattle.std.specs.List.{flat_map}
use Rattle.pon_record.specs.Fields.{onu_id}
use Rattle.pon_record.proofs.writing.openings.put_onus.Given as goal

abbrev pub invariant-loop-value : goal.invariant-loop-value
invariant-loop-value l = l.bytes.items ≡ l.initial.bytes.items ++ flat_map onu_id.write (take l.value-index l.values)
