use Rattle.std.proofs.Common.{arith, rules, false}
use Rattle.std.proofs.Math.Numerals.{add-one}
use Rattle.pon_cert.specs.Certificate.{RuleHolds}
use Rattle.pon_check.proofs.Steps.{one_more}
use Rattle.pon_check.proofs.class.first_failing.Goals as goal

pub loop-i-preserved : goal.loop-i-preserved
loop-i-preserved c = rw add-one (one_more (RuleHolds c.args.level.now) c.args.items.now c.args.saturated.now c.loop-i.i (record { weight = 0; cap = 0 }) false (omega arith) (omega arith) c.loop-i.invariant (search rules))
