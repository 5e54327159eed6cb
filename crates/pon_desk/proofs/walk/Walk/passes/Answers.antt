use Rattle.std.proofs.Common.{◌≡◌, ◌+◌, ◌∷◌, List, true, false, refl, sym, ap, ◌∙◌}
use Rattle.std.specs.Prelude.{slice_get}
use Rattle.std.proofs.lemmas.Option.{same_Some}
use Rattle.pon_desk.specs.Walks.{left_after, left_of}
use Rattle.pon_desk.specs.declared.receipt.Placed.{Placed}
use Rattle.pon_desk.proofs.Placed.{at}
use Rattle.pon_desk.proofs.Walks.{next_left}
use Rattle.pon_desk.proofs.walk.Walk.passes.Goals as goal

pub returns-then-not-is_placed : goal.returns-then-not-is_placed
returns-then-not-is_placed c = λ e.
    let w = c.entry.new.self in
    let here = sym c.entry.ensures.same ∙ next_left w.number w.index w.entries.now (left_after w) c.in-Some.entry.now c.in-Some.ensures.entry in
    let same : c.args.placed.now ≡ at w.number w.index c.in-Some.entry.now = same_Some _ _ (sym e ∙ ap (λ (l : List Placed). slice_get l 0) here) in
    let t : false ≡ true = c.if-not-is_placed.ensures.1 same in
    cc

pub returns : goal.returns
returns c =
    let w = c.entry.new.self in
    let here = sym c.entry.ensures.same ∙ next_left w.number w.index w.entries.now (left_after w) c.in-Some.entry.now c.in-Some.ensures.entry in
    let same : c.args.placed.now ≡ at w.number w.index c.in-Some.entry.now = c.if-not-is_placed.ensures.0 refl in
    here ∙ ap (λ (p : Placed). p ∷ left_of (record { number = w.number; entries = w.entries; index = w.index + 1; later = w.later; kept = w.kept })) (sym same)
