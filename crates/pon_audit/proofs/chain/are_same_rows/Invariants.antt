use Rattle.std.proofs.Common.{◌≡◌, map, take}
use Rattle.pon_audit.specs.Openings.{admitted_row}
use Rattle.pon_audit.proofs.chain.are_same_rows.Given as goal

-- the rows so far are the same
abbrev pub invariant-loop-place : goal.invariant-loop-place
invariant-loop-place l = map admitted_row (take l.place l.raws) ≡ take l.place l.rows
