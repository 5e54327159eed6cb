use Rattle.std.proofs.Common.{◌≡◌, take}
use Rattle.std.specs.Prelude.{All, None}
use Rattle.pon_audit.proofs.openings.have_no_reports.Given as goal

-- the rows so far have no reports
abbrev pub invariant-loop-row : goal.invariant-loop-row
invariant-loop-row l = All (λ r. r.counted ≡ None) (take l.row-index l.rows)
