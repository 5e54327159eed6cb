use Rattle.std.proofs.Common.{take}
use Rattle.std.specs.Prelude.{All}
use Rattle.pon_state.specs.Ranges.{IsGrantInRange}
use Rattle.pon_port.proofs.ranges.prove_grants.Given as goal

abbrev pub invariant-loop-granted : goal.invariant-loop-granted
invariant-loop-granted l = All IsGrantInRange (take l.granted-index l.grants)
