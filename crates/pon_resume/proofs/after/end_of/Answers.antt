use Rattle.pon_audit.specs.Judging.{FailsLater}
use Rattle.pon_audit.proofs.OneFault.{none_fails_at}
use Rattle.pon_resume.proofs.after.end_of.Goals as goal

-- a good chapter has no entry that fails
pub returns-in-Fails : goal.returns-in-Fails
returns-in-Fails c = λ good.
    let chapter = c.args.chapter.now in
    let fault = c.in-Fails.field-0 in
    let later : FailsLater chapter fault = rw c.in-Fails.is at c.in_ok-end.ensures in
    none_fails_at chapter fault.index fault.why good later.entry
