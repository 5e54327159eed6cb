use Rattle.std.proofs.Common.{◌≡◌, ◌++◌, map}
use Rattle.std.specs.Prelude.{drop, Ok}
use Rattle.pon_run.proofs.ports.worker_ends.Given as goal

-- the ends so far, and the results to come
abbrev pub invariant-loop-worked : goal.invariant-loop-worked
invariant-loop-worked g l = map Ok l.ends.items ++ map (λ w. w.end) (drop l.worked-index l.all) ≡ map (λ w. w.end) l.all
