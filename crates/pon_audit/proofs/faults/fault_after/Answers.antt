use Rattle.std.proofs.Common.{◌≡◌, ◌+◌, false, true, refl, arith, rules}
use Rattle.std.proofs.lemmas.Bool.{iff_false}
use Rattle.pon_audit.proofs.FirstFaults.{far_above, next_above, not_chained}
use Rattle.pon_audit.proofs.faults.fault_after.Goals as goal

pub returns-then-chapter-last-gt1 : goal.returns-then-chapter-last-gt1
returns-then-chapter-last-gt1 c = λ earlier l.
    let number : c.args.chapter.now.body.number ≡ c.chapter.inside.number = search rules in
    far_above earlier c.args.chapter.now c.args.last.now l (omega (arith, number))

pub returns-then-not-opens_with : goal.returns-then-not-opens_with
returns-then-not-opens_with c = λ earlier l.
    let number : c.args.chapter.now.body.number ≡ c.chapter.inside.number = search rules in
    let next : c.args.chapter.now.body.number ≡ c.args.last.now.number + 1 = omega (arith, number, c.requires.above) in
    let no : c.opens_with.result ≡ false = search rules in
    (c.requires.opens, not_chained earlier c.args.chapter.now c.args.last.now l next (iff_false c.opens_with.ensures no), refl)

pub returns : goal.returns
returns c = λ earlier l.
    let number : c.args.chapter.now.body.number ≡ c.chapter.inside.number = search rules in
    let next : c.args.chapter.now.body.number ≡ c.args.last.now.number + 1 = omega (arith, number, c.requires.above) in
    let yes : c.opens_with.result ≡ true = search rules in
    next_above earlier c.args.chapter.now c.args.last.now l next (c.opens_with.ensures.0 yes)
