use Rattle.std.proofs.Common.{◌≡◌, ◌∙◌, ap, get_or, rules, sym}
use Rattle.pon_state.specs.Checks.{first_refusal}
use Rattle.pon_audit.specs.Openings.{chapter_of}
use Rattle.pon_look.specs.declared.fault.FaultDetail.TheVariants.{Refused}
use Rattle.pon_look.proofs.FaultDetails.{detail_here, map_details}
use Rattle.pon_look.proofs.fault.detail_at.Goals as goal

pub returns-in-Err : goal.returns-in-Err
returns-in-Err c =
    let at : c.index.result.now ≡ get_or c.args.chapter.now.body.entries c.args.index c.index.result.now = search rules in
    let refused = ap (λ v. first_refusal c.args.index c.args.replay.now.state v) (ap (λ e. e.event) (sym c.in-Map.ensures)) ∙ c.in-Err.ensures.refused in
    detail_here (chapter_of c.args.chapter.now.body) c.args.index c.index.result.now c.args.replay.now.state c.requires.index at c.requires.kept (Refused c.in-Err.refusal) refused

pub returns-in_default : goal.returns-in_default
returns-in_default c =
    let at : c.index.result.now ≡ get_or c.args.chapter.now.body.entries c.args.index c.index.result.now = search rules in
    map_details (chapter_of c.args.chapter.now.body) c.args.index c.index.result.now c.args.replay.now.state c.requires.index at c.requires.kept c.in-Map.made.now (ap (λ e. e.reply) (sym c.in-Map.ensures)) c.detail_of.result c.detail_of.ensures

pub returns-in-Err-check : goal.returns-in-Err-check
returns-in-Err-check c =
    let at : c.index.result.now ≡ get_or c.args.chapter.now.body.entries c.args.index c.index.result.now = search rules in
    let refused = ap (λ v. first_refusal c.args.index c.args.replay.now.state v) (ap (λ e. e.event) (sym c.in-Taken.ensures)) ∙ c.in-Err-check.ensures.refused in
    detail_here (chapter_of c.args.chapter.now.body) c.args.index c.index.result.now c.args.replay.now.state c.requires.index at c.requires.kept (Refused c.in-Err-check.refusal) refused
