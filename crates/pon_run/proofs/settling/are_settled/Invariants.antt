use Rattle.std.proofs.Common.{◌≡◌}
use Rattle.std.specs.Prelude.{drop}
use Rattle.pon_run.specs.Settlements.{settled_from}
use Rattle.pon_run.proofs.settling.are_settled.Given as goal

-- whether the ports from here on are settled is left to say
abbrev pub invariant-loop-place : goal.invariant-loop-place
invariant-loop-place l = settled_from l.place (drop l.place l.all) ≡ settled_from 0 l.all
