use Rattle.std.proofs.Common.{ℕ, ◌*◌, ◌≤◌, arith}
use Rattle.pon_laws.specs.Runs.{maps_over, run_of}
use Rattle.pon_laws.proofs.RunWords.{enough_words, rounded_up}
use Rattle.pon_laws.proofs.runs.no_wait_is_longer_than_a_word.Goals as goal

pub returns : goal.returns
returns g = record {
  maps = λ c l two from count i rate there enough positive long. (let word : 256 ≤ maps_over (run_of c from count) * rate = rounded_up rate (maps_over (run_of c from count)) positive long in omega (arith, enough_words c l two from count i rate there enough, word));
  rates = λ c l two from count i rate there enough long. omega (arith, enough_words c l two from count i rate there enough, long);
}
