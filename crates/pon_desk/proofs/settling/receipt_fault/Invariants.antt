use Rattle.std.proofs.Common.{◌≡◌, ◌++◌, ◌<◌, ℕ, map, take}
use Rattle.pon_desk.specs.Settling.{IsRightAt}
use Rattle.pon_desk.specs.Walks.{left_of}
use Rattle.pon_desk.proofs.settling.receipt_fault.Given as goal

-- the receipts so far are right, and their entries are passed
abbrev pub invariant-loop-k : goal.invariant-loop-k
invariant-loop-k l = record {
  right : (j : ℕ) → j < l.k → IsRightAt (left_of l.fn.walk) l.port l.receipts j;
  passed : left_of l.fn.walk ≡ map (λ r. r.placed) (take l.k l.receipts) ++ left_of l.walk;
}
