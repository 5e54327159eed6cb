use Rattle.std.proofs.Common.{◌≡◌, ◌≤◌, count_by, take}
use Rattle.pon_admit.specs.Roster.{comes_before, has_alloc, owned}
use Rattle.pon_admit.proofs.search.look_through.Given as goal

abbrev pub invariant-loop-other : goal.invariant-loop-other
invariant-loop-other l = record {
  place : l.place ≡ count_by (λ s. comes_before s l.row) (take l.other-index l.rows);
  few_before : l.place ≤ l.other-index;
  taken : l.taken ≡ has_alloc l.row.alloc_id (take l.other-index l.rows);
  owned : l.owned ≡ owned l.row.onu (take l.other-index l.rows);
  few_owned : l.owned ≤ l.other-index;
}
