use Rattle.std.proofs.Common.{◌≡◌, ◌+◌, ◌++◌, ◌∷◌, ◌∙◌, [], ap, arith, length, rules, subst, sym}
use Rattle.std.proofs.lemmas.List.{length_push}
use Rattle.std.specs.Prelude.{Err, Ok}
use Rattle.pon_text.specs.Lines.{words_of}
use Rattle.pon_line.specs.Commands.{occupancy_field, occupancy_fields}
use Rattle.pon_line.specs.Parts.{FailsBy}
use Rattle.pon_line.specs.declared.occupancies.TheConstants.{OCCUPANCY}
use Rattle.pon_line.proofs.FieldWords.{after_those, at_end, counted, faulty, one_more, stops_at, too_few, too_many}
use Rattle.pon_line.proofs.occupancies.occupancy_fields.Goals as goal

pub returns : goal.returns
returns c =
    let words : words_of c.loop-word.rest.now ≡ [] = search rules in
    let at = OCCUPANCY + c.loop-word.count in
    record {
      count = counted (words_of c.args.text.now) (omega (arith, c.if-count-eq0.false, c.loop-word.invariant.count, ap length words)) (omega (arith, c.loop-word.invariant.few, c.loop-word.invariant.count, ap length words));
      ok = sym c.loop-word.invariant.all ∙ ap (λ ws. after_those c.loop-word.occupancies (occupancy_fields at ws)) words ∙ at_end c.loop-word.occupancies at;
      err = tt;
    }

pub returns-then-count-eq0-clause-err : goal.returns-then-count-eq0-clause-err
returns-then-count-eq0-clause-err c =
    let words : words_of c.loop-word.rest.now ≡ [] = search rules in
    too_few (words_of c.args.text.now) (omega (arith, c.if-count-eq0.true, c.loop-word.invariant.count, ap length words))

pub returns-then-count-eq-MAX_SERIES-clause-err : goal.returns-then-count-eq-MAX_SERIES-clause-err
returns-then-count-eq-MAX_SERIES-clause-err c =
    let words : words_of c.loop-word.rest.now ≡ c.in-Some.word.word.now ∷ words_of c.in-Some.word.rest.now = search rules in
    too_many (words_of c.args.text.now) (omega (arith, c.if-count-eq-MAX_SERIES.true, c.loop-word.invariant.count, ap length words))

pub returns-in-Err : goal.returns-in-Err
returns-in-Err c =
    let words : words_of c.loop-word.rest.now ≡ c.in-Some.word.word.now ∷ words_of c.in-Some.word.rest.now = search rules in
    let at = OCCUPANCY + c.loop-word.count in
    let refused : occupancy_field at c.in-Some.word.word.now ≡ Err c.in-Err.refusal = search rules in
    let all : occupancy_fields OCCUPANCY (words_of c.args.text.now) ≡ Err c.in-Err.refusal
    = sym c.loop-word.invariant.all ∙ ap (λ ws. after_those c.loop-word.occupancies (occupancy_fields at ws)) words
    ∙ stops_at c.loop-word.occupancies at c.in-Some.word.word.now (words_of c.in-Some.word.rest.now) c.in-Err.refusal refused in
    record {
      count = tt;
      ok = tt;
      err = subst (FailsBy (words_of c.args.text.now)) (sym c.first_refusal.ensures)
          (faulty (words_of c.args.text.now) c.in-Err.refusal (c.loop-word.count + 1 + length (words_of c.in-Some.word.rest.now))
          (omega (arith, c.loop-word.invariant.count, ap length words)) (omega (arith)) all);
    }

pub loop-word-preserved : goal.loop-word-preserved
loop-word-preserved c =
    let words : words_of c.loop-word.rest.now ≡ c.in-Some.word.word.now ∷ words_of c.in-Some.word.rest.now = search rules in
    let at = OCCUPANCY + c.loop-word.count in
    let next : OCCUPANCY + (c.loop-word.count + 1) ≡ at + 1 = omega (arith) in
    let read : occupancy_field at c.in-Some.word.word.now ≡ Ok c.in-Ok.occupancy = search rules in
    let pushed : c.push.new.self ≡ c.loop-word.occupancies ++ c.in-Ok.occupancy ∷ [] = search rules in
    record {
      few = omega (arith, c.if-count-eq-MAX_SERIES.false, c.loop-word.invariant.few);
      read = omega (arith, c.loop-word.invariant.read, ap length pushed, length_push c.loop-word.occupancies c.in-Ok.occupancy);
      count = omega (arith, c.loop-word.invariant.count, ap length words);
      all = ap (λ n. after_those c.push.new.self (occupancy_fields n (words_of c.in-Some.word.rest.now))) next
          ∙ ap (λ ns. after_those ns (occupancy_fields (at + 1) (words_of c.in-Some.word.rest.now))) pushed
          ∙ sym (one_more c.loop-word.occupancies at c.in-Some.word.word.now (words_of c.in-Some.word.rest.now) c.in-Ok.occupancy read)
          ∙ ap (λ ws. after_those c.loop-word.occupancies (occupancy_fields at ws)) (sym words) ∙ c.loop-word.invariant.all;
    }
