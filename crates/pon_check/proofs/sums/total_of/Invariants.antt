use Rattle.std.proofs.Common.{◌≡◌, ◌+◌, ◌*◌, ◌^◌, ◌≤◌, drop}
use Rattle.std.specs.Prelude.{sum, map}
use Rattle.std.specs.List.{zip}
use Rattle.pon_cert.specs.Certificate.{amount}
use Rattle.pon_check.proofs.sums.total_of.Given as goal

abbrev pub invariant-loop-i : goal.invariant-loop-i
invariant-loop-i l = record {
  sum : l.total + sum (map (λ p. amount l.level p.0 p.1) (zip (drop l.i l.items) (drop l.i l.saturated))) ≡ sum (map (λ p. amount l.level p.0 p.1) (zip l.items l.saturated));
  small : l.total ≤ l.i * 2 ^ 86;
}
