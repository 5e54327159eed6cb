use Rattle.pon_record.specs.Recordings.{IsRecording, IsTruncated}
use Rattle.pon_audit.proofs.progress.Audit.verdict_at.Goals as goal

pub returns-in-Whole : goal.returns-in-Whole
returns-in-Whole c = λ bytes chapters p left audited ends.
    let whole : IsRecording bytes chapters = rw c.in-Whole.is at ends in
    c.end.ensures bytes chapters audited whole

pub returns-in-Cut : goal.returns-in-Cut
returns-in-Cut c = λ bytes chapters p left audited ends.
    let cut : IsTruncated bytes c.in-Cut.at chapters = rw c.in-Cut.is at ends in
    c.cut.ensures bytes chapters audited cut
