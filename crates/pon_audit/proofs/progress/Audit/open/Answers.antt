use Rattle.std.proofs.Common.{refl, rules}
use Rattle.pon_audit.proofs.FirstFaults.{none_judged}
use Rattle.pon_audit.proofs.progress.Audit.open.Goals as goal

pub returns : goal.returns
returns c = (none_judged c.in_ok-ends.ends c.args.kept (search rules), refl)
