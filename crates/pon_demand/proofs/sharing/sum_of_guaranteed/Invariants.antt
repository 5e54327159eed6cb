use Rattle.std.proofs.Common.{◌≡◌, ◌*◌, ◌≤◌, take}
use Rattle.std.specs.Prelude.{sum_by}
use Rattle.pon_units.specs.declared.limits.TheConstants.{MAX_RATE}
use Rattle.pon_demand.proofs.sharing.sum_of_guaranteed.Given as goal

abbrev pub invariant-loop-demand : goal.invariant-loop-demand
invariant-loop-demand l = record {
  sum : l.sum ≡ sum_by (λ d. d.guaranteed) (take l.demand-index l.demands);
  small : l.sum ≤ l.demand-index * MAX_RATE;
}
