use Rattle.std.proofs.Common.{sym}
use Rattle.pon_c.proofs.LastChapters.{good_recording}
use Rattle.pon_c.proofs.resuming.audit_and_resume.Goals as goal

pub resume_last-requires : goal.resume_last-requires
resume_last-requires c = good_recording c.args.bytes.now c.in-Ok.found (sym c.if-not-is_good.ensures) c.in-Ok.ensures
