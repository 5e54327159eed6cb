use Rattle.std.proofs.Common.{◌≡◌, map, take}
use Rattle.pon_look.proofs.tally.lists_rows.Given as goal

-- the Alloc-IDs so far are equal
abbrev pub invariant-loop-place : goal.invariant-loop-place
invariant-loop-place l = map (λ x. x.alloc_id) (take l.place l.rows) ≡ map (λ a. a.id) (take l.place l.structures)
