use Rattle.std.proofs.Common.{rules}
use Rattle.pon_c.specs.Resuming.{Resumes}
use Rattle.pon_c.proofs.GoodTogether.{stays_good}
use Rattle.pon_c.proofs.resuming.sez_resume.Goals as goal

pub returns-in-Ok-new-clause-good_together : goal.returns-in-Ok-new-clause-good_together
returns-in-Ok-new-clause-good_together c = λ _.
    let resumed : Resumes c.args.bytes.now c.args.number c.of.result.owned.port = search rules in
    stays_good c.args.bytes.now c.args.number c.of.result.owned.port resumed
