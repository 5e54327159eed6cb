use Rattle.std.proofs.Common.{arith, rules, ◌≡◌, ◌∙◌, ◌+◌, ◌*◌, ap}
use Rattle.std.specs.Str.Parse.{digits_value}
use Rattle.pon_text.proofs.Digits.{digit_in, value_more, value_too_large}
use Rattle.std.proofs.lemmas.List.{take_all}
use Rattle.pon_text.proofs.numbers.value_of.Goals as goal

pub overflow_sub-digit : goal.overflow_sub-digit
overflow_sub-digit c = (digit_in c.args.digits.now c.loop-digit.digit-index c.requires (search rules)).0

pub returns-in_err-checked_mul : goal.returns-in_err-checked_mul
returns-in_err-checked_mul c = rw c.from_residual.ensures
    (value_too_large c.args.digits.now c.loop-digit.digit-index c.loop-digit.value (c.loop-digit.value * 10) c.requires (search rules) c.loop-digit.invariant.0 (omega arith) c.in_err-checked_mul.ensures)

pub returns-in_err-value : goal.returns-in_err-value
returns-in_err-value c = rw c.from_residual-in_err-value.ensures
    (value_too_large c.args.digits.now c.loop-digit.digit-index c.loop-digit.value (c.in_ok-checked_mul.field-0 + c.from.result) c.requires (search rules) c.loop-digit.invariant.0 (omega (arith, c.in_ok-checked_mul.ensures)) c.in_err-value.ensures)

pub loop-digit-preserved : goal.loop-digit-preserved
loop-digit-preserved c =
    (omega (arith, value_more c.args.digits.now c.loop-digit.digit-index c.loop-digit.value c.requires (search rules) c.loop-digit.invariant.0, c.in_ok-checked_mul.ensures, c.in_ok-value.ensures), omega (arith, c.in_ok-value.ensures))

pub returns : goal.returns
returns c =
    let whole : c.loop-digit.value ≡ digits_value 10 c.args.digits.now
    = c.loop-digit.invariant.0 ∙ ap (digits_value 10) (take_all c.loop-digit.digit-index c.args.digits.now (search rules)) in
    (omega arith, whole)
