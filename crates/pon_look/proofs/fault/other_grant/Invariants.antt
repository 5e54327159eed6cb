use Rattle.std.specs.Prelude.{IfSome}
use Rattle.pon_look.specs.FaultDetails.{IsOther}
use Rattle.pon_look.proofs.fault.other_grant.Given as goal

-- the grant found so far is another than the wanted one
abbrev pub invariant-loop-place : goal.invariant-loop-place
invariant-loop-place l = IfSome l.detail (IsOther l.wanted l.found)
