use Rattle.pon_guar.proofs.RestoredParts.{CountUp}
use Rattle.pon_guar.proofs.parts.are_consecutive.Given as goal

-- the frames so far are consecutive
abbrev pub invariant-loop-place : goal.invariant-loop-place
invariant-loop-place l = CountUp l.maps l.place
