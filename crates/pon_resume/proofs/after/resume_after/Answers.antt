use Rattle.std.proofs.Common.{arith, subst, sym}
use Rattle.pon_history.specs.Chapters.{Chapter, IsLawfulOpening}
use Rattle.pon_history.proofs.LawfulChapters.{opens_at_present}
use Rattle.pon_audit.specs.Judging.{EndsWith}
use Rattle.pon_audit.specs.Openings.{chapter_of}
use Rattle.pon_resume.proofs.after.resume_after.Goals as goal

pub resume-requires : goal.resume-requires
resume-requires c =
    let chapter : Chapter = chapter_of c.args.chapter.now.body in
    let number = c.in-Some-checked_add.number in
    let ends : EndsWith c.args.chapter.now c.in-Some.end = rw c.in-Some.is at c.in_ok-end.ensures in
    subst (IsLawfulOpening number) (sym ends.kept.replayed) (opens_at_present chapter ends.kept.lawful number (omega (arith, c.in-Some-checked_add.ensures)))
