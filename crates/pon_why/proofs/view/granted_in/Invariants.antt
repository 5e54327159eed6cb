use Rattle.std.proofs.Common.{◌≡◌, drop}
use Rattle.std.specs.Prelude.{◌==◌, find}
use Rattle.pon_why.proofs.view.granted_in.Given as goal

-- the grant of the Alloc-ID is among those to come, if there is one
abbrev pub invariant-loop-granted : goal.invariant-loop-granted
invariant-loop-granted l = find (λ g. g.alloc_id == l.row.alloc_id) l.own ≡ find (λ g. g.alloc_id == l.row.alloc_id) (drop l.granted-index l.own)
