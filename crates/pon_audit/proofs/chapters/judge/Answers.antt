use Rattle.std.proofs.Common.{rules, subst, sym}
use Rattle.pon_history.specs.Taking.{IsKept}
use Rattle.pon_audit.specs.Openings.{chapter_of}
use Rattle.pon_record.specs.Openings.{KeepsLimits}
use Rattle.pon_record.specs.Chapters.{PlacedChapter}
use Rattle.pon_record.proofs.RuleLimits.{keeps_limits}
use Rattle.pon_audit.proofs.Kept.{ended}
use Rattle.pon_audit.proofs.chapters.judge.Goals as goal

pub returns-in-None-2 : goal.returns-in-None-2
returns-in-None-2 c =
    let kept : IsKept (chapter_of c.args.chapter.now.body) c.entry_fault.new.state = search rules in
    ended c.args.chapter.now c.entry_fault.new.state kept

pub open_state-requires : goal.open_state-requires
open_state-requires c =
    subst (λ (d : PlacedChapter). KeepsLimits d.body.opening) (sym c.chapter.view_is)
    (keeps_limits c.requires.version c.args.chapter.now.body c.requires.fits)
