use Rattle.std.proofs.Common.{◌≡◌, take}
use Rattle.pon_dbru.proofs.occupancies.Occupancies.copy.Given as goal

abbrev pub invariant-loop-report : goal.invariant-loop-report
invariant-loop-report l = l.copy ≡ take l.report-index l.reports
