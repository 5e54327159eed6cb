use Rattle.std.proofs.Common.{◌≡◌, ◌+◌, ◌*◌, length, take, drop}
use Rattle.pon_link.specs.UpRecords.{ReadsReports}
use Rattle.pon_link.proofs.encode.encode_up.Given as goal

abbrev pub invariant-loop-report : goal.invariant-loop-report
invariant-loop-report l = record {
  size : length l.bytes.items ≡ 14 + 4 * l.report-index;
  front : take 14 l.bytes.items ≡ l.initial.bytes.items;
  reports : ReadsReports (drop 14 l.bytes.items) (take l.report-index l.reports);
}
