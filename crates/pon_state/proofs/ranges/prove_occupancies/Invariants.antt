use Rattle.std.proofs.Common.{◌<◌, ◌^◌, take}
use Rattle.std.specs.Prelude.{All, IfSome}
use Rattle.pon_state.proofs.ranges.prove_occupancies.Given as goal

-- the occupancies so far are in range
abbrev pub invariant-loop-report : goal.invariant-loop-report
invariant-loop-report l = All (λ o. IfSome o (λ words. words < 2 ^ 24)) (take l.report-index l.occ)
