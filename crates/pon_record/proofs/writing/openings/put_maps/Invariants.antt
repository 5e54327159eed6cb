use Rattle.std.proofs.Common.{◌≡◌, ◌++◌, take}
use Rattle.std.specs.List.{flat_map}
use Rattle.pon_admit.specs.declared.rule.Rule.TheVariants as rule
use Rattle.pon_record.specs.Openings.{window_map_under}
use Rattle.pon_record.proofs.writing.openings.put_maps.Given as goal

abbrev pub invariant-loop-value : goal.invariant-loop-value
invariant-loop-value l = l.bytes.items ≡ l.initial.bytes.items ++ flat_map (window_map_under rule.CarryRemainders).write (take l.value-index l.values)
