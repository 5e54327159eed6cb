use Rattle.std.proofs.Common.{◌≡◌, drop}
use Rattle.std.specs.Prelude.{◌==◌, find}
use Rattle.pon_sure.proofs.sure.row_of.Given as goal

-- the row of the Alloc-ID is among those to come, if there is one
abbrev pub invariant-loop-row : goal.invariant-loop-row
invariant-loop-row l = find (λ r. r.alloc_id == l.alloc_id) l.rows ≡ find (λ r. r.alloc_id == l.alloc_id) (drop l.row-index l.rows)
