use Rattle.std.proofs.Common.{◌≡◌, ◌*◌, length, take}
use Rattle.pon_link.specs.UpRecords.{ReadsReports}
use Rattle.pon_link.proofs.decode.occupancies_in.Given as goal

abbrev pub invariant-loop-i : goal.invariant-loop-i
invariant-loop-i l = record {
  count : length l.occupancies ≡ l.i;
  reports : ReadsReports (take (4 * l.i) l.bytes) l.occupancies;
}
