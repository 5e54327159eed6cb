use Rattle.std.proofs.Common.{◌≡◌, drop}
use Rattle.std.specs.Prelude.{◌==◌, find}
use Rattle.pon_why.proofs.last.row_of.Given as goal

-- the numbers of the Alloc-ID are among those to come, if there are any
abbrev pub invariant-loop-row : goal.invariant-loop-row
invariant-loop-row l = find (λ x. x.row.alloc_id == l.alloc_id) l.rows ≡ find (λ x. x.row.alloc_id == l.alloc_id) (drop l.row-index l.rows)
