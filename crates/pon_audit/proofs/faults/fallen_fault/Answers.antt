use Rattle.std.proofs.Common.{◌≡◌, false, refl, rules, subst, sym}
use Rattle.std.specs.Prelude.{All}
use Rattle.std.proofs.lemmas.Bool.{iff_false}
use Rattle.pon_audit.specs.declared.ends.KeptEnds.TheVariants.{OfChapters}
use Rattle.pon_audit.specs.Judging.{IsKeptEnd, OpensAt}
use Rattle.pon_audit.proofs.FirstFaults.{all_kept, chained_if, not_ascending, opens_if}
use Rattle.pon_audit.proofs.faults.fallen_fault.Goals as goal

pub is_chained-requires-clause-ends : goal.is_chained-requires-clause-ends
is_chained-requires-clause-ends c =
    let kept : c.args.ends.now.kept ≡ OfChapters = search rules in
    subst (All IsKeptEnd) (sym c.all.ensures) (all_kept c.requires.judged.0 c.args.ends.now.ends (c.requires.judged.1.each kept))

pub returns-in-OfChapters-clause-fault : goal.returns-in-OfChapters-clause-fault
returns-in-OfChapters-clause-fault c = λ earlier last judged l below.
    let kept : c.args.ends.now.kept ≡ OfChapters = search rules in
    let all = subst (All (OpensAt c.args.chapter.now)) c.all.ensures (c.is_chained.ensures.0 (search rules)) in
    (c.requires.opens, record { chained = chained_if earlier c.args.ends.now.ends (judged.each kept) c.args.chapter.now all; falls = not_ascending earlier c.args.chapter.now last l below }, refl)

pub returns-in-OfChapters-2-clause-fault : goal.returns-in-OfChapters-2-clause-fault
returns-in-OfChapters-2-clause-fault c = λ earlier last judged l below.
    let kept : c.args.ends.now.kept ≡ OfChapters = search rules in
    let other : c.is_chained.result ≡ false = search rules in
    (c.requires.opens, λ h. iff_false c.is_chained.ensures other (subst (All (OpensAt c.args.chapter.now)) (sym c.all.ensures) (opens_if earlier c.args.ends.now.ends (judged.each kept) c.args.chapter.now h)), refl)
