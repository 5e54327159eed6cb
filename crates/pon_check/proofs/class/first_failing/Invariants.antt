use Rattle.std.proofs.Common.{take}
use Rattle.std.specs.List.{AllZip}
use Rattle.pon_cert.specs.Certificate.{RuleHolds}
use Rattle.pon_check.proofs.class.first_failing.Given as goal

abbrev pub invariant-loop-i : goal.invariant-loop-i
invariant-loop-i l = AllZip (RuleHolds l.level) (take l.i l.items) (take l.i l.saturated)
