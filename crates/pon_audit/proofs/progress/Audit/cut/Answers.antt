use Rattle.std.proofs.Common.{inr}
use Rattle.pon_audit.specs.Judging.{TellsBad}
use Rattle.pon_audit.proofs.FirstFaults.{bad_told}
use Rattle.pon_audit.proofs.progress.Audit.cut.Goals as goal

pub returns-in-Some : goal.returns-in-Some
returns-in-Some c = λ bytes chapters audited truncated.
    let bad : TellsBad chapters c.in-Some.verdict = rw c.in-Some.is at audited in
    bad_told bytes chapters c.in-Some.verdict (inr (c.args.at, truncated)) bad
