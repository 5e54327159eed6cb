use Rattle.std.proofs.Common.{sym}
use Rattle.pon_audit.specs.Verdicts.{IsVerdict}
use Rattle.pon_resume.proofs.EndsWell.{ends_well}
use Rattle.pon_resume.proofs.ends.read_ends.Goals as goal

pub returns-clause-last : goal.returns-clause-last
returns-clause-last g c = λ bytes is also.
    let v = c.in_ok-verdict.verdict in
    let verdict : IsVerdict bytes v = rw is at c.in_ok-verdict.ensures.verdict in
    ends_well bytes v c.in_ok-read_last.field-0 (sym c.if-not-is_resumable.ensures) verdict (c.in_ok-read_last.ensures.last bytes also)
