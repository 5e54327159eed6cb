use Rattle.std.proofs.Common.{◌≡◌, ◌++◌, take}
use Rattle.std.specs.List.{flat_map}
use Rattle.pon_record.specs.Events.{occupancy}
use Rattle.pon_record.proofs.writing.entries.put_reports.Given as goal

abbrev pub invariant-loop-report : goal.invariant-loop-report
invariant-loop-report l = l.bytes.items ≡ l.initial.bytes.items ++ flat_map occupancy.write (take l.report-index l.reports)
