use Rattle.std.proofs.Common.{arith}
use Rattle.pon_laws.proofs.RunWords.{small_carry, words_of_run}
use Rattle.pon_laws.proofs.runs.rounding_is_less_than_a_word.Goals as goal

pub returns : goal.returns
returns g = record {
  whole = words_of_run;
  below = λ c l two from count i there. omega (arith, words_of_run c l two from count i there);
  above = λ c l two from count i there. omega (arith, words_of_run c l two from count i there, small_carry c l two from count i);
}
