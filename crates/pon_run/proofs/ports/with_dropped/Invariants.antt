use Rattle.std.proofs.Common.{◌≡◌, ◌++◌}
use Rattle.std.specs.Prelude.{drop}
use Rattle.pon_run.specs.Ends.{with_dropped}
use Rattle.pon_run.proofs.ports.with_dropped.Given as goal

-- the ends so far, and those to come
abbrev pub invariant-loop-place : goal.invariant-loop-place
invariant-loop-place l = l.all.items ++ with_dropped (drop l.place l.ends) (drop l.place l.dropped) ≡ with_dropped l.ends l.dropped
