use Rattle.std.proofs.Common.{◌+◌, ◌%◌, ◌≡◌, ◌∙◌, arith}
use Rattle.std.specs.Int.Count.{ones}
use Rattle.std.proofs.lemmas.Nat.{and_mask}
use Rattle.pon_hec.specs.Syndrome.{Leaves}
use Rattle.pon_hec.proofs.Unique.{rest_of}
use Rattle.pon_hec.proofs.Opening.{rest_small, found, found_none, found_past, codeword_clean, codeword_found, clean_pair, past_clean}
use Rattle.pon_hec.proofs.open.open.Goals as goal

pub wrong_places-requires-clause-rest : goal.wrong_places-requires-clause-rest
wrong_places-requires-clause-rest c = rw c.rest_of.ensures (rest_small c.args.word c.ranges.word.fits)

pub returns-in_err-wrong-clause-none : goal.returns-in_err-wrong-clause-none
returns-in_err-wrong-clause-none c =
    let odd : c.from.result ≡ ones c.args.word % 2 = c.from.ensures ∙ and_mask (ones c.args.word) 1 in
    rw c.from_residual.ensures (found_none (c.args.last + 1) c.args.word (omega (arith, c.ranges.last.fits)) c.ranges.word.fits
    (λ d h. c.in_err-wrong.ensures.none d (rw (odd, c.rest_of.ensures) h)))

pub returns-in_err-wrong-clause-clean : goal.returns-in_err-wrong-clause-clean
returns-in_err-wrong-clause-clean c = λ w.
    let odd : c.from.result ≡ ones c.args.word % 2 = c.from.ensures ∙ and_mask (ones c.args.word) 1 in
    absurd (codeword_found (c.args.last + 1) c.args.word (omega (arith, c.ranges.last.fits)) w
    (λ d h. c.in_err-wrong.ensures.none d (rw (odd, c.rest_of.ensures) h)))

pub returns-then-near-last-clause-some : goal.returns-then-near-last-clause-some
returns-then-near-last-clause-some c =
    let odd : c.from.result ≡ ones c.args.word % 2 = c.from.ensures ∙ and_mask (ones c.args.word) 1 in
    let leaves : Leaves c.in_ok-wrong.wrong (rest_of c.args.word) (ones c.args.word % 2) = rw (odd, c.rest_of.ensures) at c.in_ok-wrong.ensures.some in
    found (c.args.last + 1) c.args.word c.in_ok-wrong.wrong c.ranges.word.fits leaves (omega arith)

pub returns-then-near-last-clause-clean : goal.returns-then-near-last-clause-clean
returns-then-near-last-clause-clean c = λ h.
    let odd : c.from.result ≡ ones c.args.word % 2 = c.from.ensures ∙ and_mask (ones c.args.word) 1 in
    let leaves : Leaves c.in_ok-wrong.wrong (rest_of c.args.word) (ones c.args.word % 2) = rw (odd, c.rest_of.ensures) at c.in_ok-wrong.ensures.some in
    clean_pair c.args.word c.in_ok-wrong.wrong (codeword_clean (c.args.last + 1) c.args.word c.in_ok-wrong.wrong (omega (arith, c.ranges.last.fits)) h leaves)

pub returns-else-near-last-clause-none : goal.returns-else-near-last-clause-none
returns-else-near-last-clause-none c =
    let odd : c.from.result ≡ ones c.args.word % 2 = c.from.ensures ∙ and_mask (ones c.args.word) 1 in
    let leaves : Leaves c.in_ok-wrong.wrong (rest_of c.args.word) (ones c.args.word % 2) = rw (odd, c.rest_of.ensures) at c.in_ok-wrong.ensures.some in
    found_past (c.args.last + 1) c.args.word c.in_ok-wrong.wrong (omega (arith, c.ranges.last.fits)) c.ranges.word.fits leaves (omega arith)

pub returns-else-near-last-clause-clean : goal.returns-else-near-last-clause-clean
returns-else-near-last-clause-clean c = λ h.
    let odd : c.from.result ≡ ones c.args.word % 2 = c.from.ensures ∙ and_mask (ones c.args.word) 1 in
    let leaves : Leaves c.in_ok-wrong.wrong (rest_of c.args.word) (ones c.args.word % 2) = rw (odd, c.rest_of.ensures) at c.in_ok-wrong.ensures.some in
    let none = codeword_clean (c.args.last + 1) c.args.word c.in_ok-wrong.wrong (omega (arith, c.ranges.last.fits)) h leaves in
    absurd (past_clean c.args.word c.in_ok-wrong.wrong c.args.last none c.requires c.if-near-last.false)
