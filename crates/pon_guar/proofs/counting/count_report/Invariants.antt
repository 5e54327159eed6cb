use Rattle.std.proofs.Common.{◌≡◌, drop}
use Rattle.std.specs.Prelude.{sum_by}
use Rattle.pon_guar.specs.Book.{AreRising, alloc_ids}
use Rattle.pon_guar.specs.Window.{grants_at, words_to, words_to_from}
use Rattle.pon_guar.specs.Reports.{after_occupancies}
use Rattle.pon_guar.proofs.counting.count_report.Given as goal

-- the remaining occupancies counted in the present accounts are all occupancies counted in the first accounts
abbrev pub invariant-loop-granted : goal.invariant-loop-granted
invariant-loop-granted l = record {
  rising : AreRising (alloc_ids l.accounts);
  rest : after_occupancies (λ i. sum_by (words_to l.onu i) (drop l.place l.window)) l.frame l.granted-iterator.a.rest.now l.granted-iterator.b.rest.now l.accounts
      ≡ after_occupancies (λ i. words_to_from l.report.onu i l.report.frame l.window) l.report.frame (grants_at l.report.frame l.report.onu l.window) l.occupancies l.fn.accounts;
}
