use Rattle.std.proofs.Common.{◌≡◌, ◌++◌}
use Rattle.std.specs.Prelude.{drop}
use Rattle.pon_run.specs.Ends.{ends_of}
use Rattle.pon_run.proofs.ports.ends_of.Given as goal

-- the ends so far, and those to come
abbrev pub invariant-loop-place : goal.invariant-loop-place
invariant-loop-place l = l.all.items ++ ends_of (drop l.place l.ports) (drop l.place l.workers) ≡ ends_of l.ports l.workers
