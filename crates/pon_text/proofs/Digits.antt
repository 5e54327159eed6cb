-- The value of digits with one more digit.
use Rattle.std.proofs.Common.{◌≡◌, ℕ, ◌+◌, ◌-◌, ◌*◌, ◌^◌, ◌<◌, ◌≤◌, true, List, length, take, get_or, arith, rules}
use Rattle.std.specs.Prelude.{IsTrue}
use Rattle.std.specs.Char.{is_ascii_digit}
use Rattle.std.specs.List.{list_all}
use Rattle.std.specs.Str.Parse.{digits_value}
use Rattle.std.specs.Int.{IsInRange}
use Rattle.std.proofs.lemmas.Int.Digits.{digits_value_more}
use Rattle.std.proofs.lemmas.Str.{digit_value_digit}
use Rattle.std.proofs.lemmas.Str.Parse.{IsNumeralModel, numerals_by_value, digit_at, digits_value-take-le}

own : IsNumeralModel (λ ds. list_all is_ascii_digit ds ≡ true) (digits_value 10)
own = numerals_by_value (λ ds. list_all is_ascii_digit ds ≡ true) (search rules)

-- a byte of digits is a digit
pub digit_in : (ds : List ℕ) (i : ℕ) → IsTrue (list_all is_ascii_digit ds) → i < length ds → IsInRange 48 57 (get_or ds i 0)
digit_in ds i h l = digit_at ds i (own.to ds h) l

-- the value with one more digit
pub value_more : (ds : List ℕ) (i n : ℕ) → IsTrue (list_all is_ascii_digit ds) → i < length ds → n ≡ digits_value 10 (take i ds) →
    digits_value 10 (take (i + 1) ds) ≡ n * 10 + (get_or ds i 0 - 48)
value_more ds i n h l e =
    omega (arith, digits_value_more 10 ds i l, digit_value_digit (get_or ds i 0) (digit_in ds i h l), e)

-- if the first digits have a value of 2 ^ 64 or more, so have all
pub value_too_large : (ds : List ℕ) (i n m : ℕ) → IsTrue (list_all is_ascii_digit ds) → i < length ds → n ≡ digits_value 10 (take i ds) →
    m ≤ n * 10 + (get_or ds i 0 - 48) → (m < 2 ^ 64 → ⊥) → digits_value 10 ds < 2 ^ 64 → ⊥
value_too_large ds i n m h l e le large small =
    large (omega (arith, value_more ds i n h l e, digits_value-take-le 10 ds (i + 1) (omega arith), le, small))
