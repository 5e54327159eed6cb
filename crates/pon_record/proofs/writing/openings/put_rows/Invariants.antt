use Rattle.std.proofs.Common.{◌≡◌, ◌++◌, take}
use Rattle.std.specs.List.{flat_map, zip}
use Rattle.pon_record.specs.Bodies.{row_bytes}
use Rattle.pon_record.proofs.writing.openings.put_rows.Given as goal

abbrev pub invariant-loop-place : goal.invariant-loop-place
invariant-loop-place l = l.bytes.items ≡ l.initial.bytes.items ++ flat_map (row_bytes l.loads.accounts) (take l.place (zip l.values l.carries))
