use Rattle.pon_audit.proofs.FirstFaults.{still_told}
use Rattle.pon_audit.proofs.progress.Audit.take_answers.Goals as goal

pub returns-in-Some : goal.returns-in-Some
returns-in-Some c = λ earlier audited. still_told c.args.self.now.found c.in-Some._verdict _ _ earlier c.args.chapters.now c.in-Some.is audited
