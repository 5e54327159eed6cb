use Rattle.std.proofs.Common.{◌≡◌, ◌++◌, drop, take}
use Rattle.pon_record.specs.declared.version.Version.TheVariants as version
use Rattle.pon_record.proofs.MovedBodies.{rows_in}
use Rattle.pon_record.proofs.moved.put_rows.Given as goal

abbrev pub invariant-loop-row : goal.invariant-loop-row
invariant-loop-row l = record {
  left : l.rest ≡ rows_in version.One (drop l.row-index l.rows);
  moved : l.out.items ≡ l.initial.out.items ++ rows_in version.Two (take l.row-index l.rows);
}
