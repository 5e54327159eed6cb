use Rattle.std.proofs.Common.{◌≡◌, ◌∙◌, Option, ap, get_or, inr, refl, rules, subst, sym}
use Rattle.std.proofs.lemmas.Option.{slice_get-get_or}
use Rattle.pon_demand.specs.Sharing.{IsCertified}
use Rattle.pon_state.specs.State.{input_of}
use Rattle.pon_audit.specs.Openings.{chapter_of}
use Rattle.pon_look.specs.Explanations.{Explains}
use Rattle.pon_look.proofs.Refusals.{no_map_here, other_certificate_here}
use Rattle.pon_look.proofs.why.explain_at.Goals as goal

pub returns-in-Some : goal.returns-in-Some
returns-in-Some c =
    let kept = c.requires.kept in
    let told : Explains c.args.replay.now.state c.in-Map.made.now.cert c.in-Some.explained = rw c.in-Some.is at c.in_ok-explained-in-Map.ensures.numbers in
    let at : c.index.result.now ≡ get_or c.args.chapter.now.body.entries c.args.index c.index.result.now = search rules in
    record {
      entry = c.index.result.now;
      here = slice_get-get_or c.args.chapter.now.body.entries c.args.index c.index.result.now c.requires.index ∙ ap Option.Some (sym at);
      made = c.in-Map.made.now;
      is_map = ap (λ e. e.reply) (sym c.in-Map.ensures);
      lawful = kept.lawful;
      explains = subst (λ s. Explains s c.in-Map.made.now.cert c.in-Some.explained) kept.replayed told;
    }

pub returns-in-None : goal.returns-in-None
returns-in-None c =
    let none : IsCertified (input_of c.args.replay.now.state) c.in-Map.made.now.cert → ⊥ = rw c.in-None.is at c.in_ok-explained-in-Map.ensures.numbers in
    let at : c.index.result.now ≡ get_or c.args.chapter.now.body.entries c.args.index c.index.result.now = search rules in
    inr (inr (other_certificate_here (chapter_of c.args.chapter.now.body) c.args.index c.index.result.now c.args.replay.now.state c.requires.index at c.requires.kept c.in-Map.made.now (ap (λ e. e.reply) (sym c.in-Map.ensures)) none, refl))

pub returns-in-Taken : goal.returns-in-Taken
returns-in-Taken c =
    let at : c.index.result.now ≡ get_or c.args.chapter.now.body.entries c.args.index c.index.result.now = search rules in
    inr (inr (no_map_here (chapter_of c.args.chapter.now.body) c.args.index c.index.result.now c.args.replay.now.state c.requires.index at c.requires.kept (ap (λ e. e.reply) (sym c.in-Taken.ensures)), refl))
