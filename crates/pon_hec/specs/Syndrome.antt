-- The syndrome of bit errors in a word, 13 bits.
use Rattle.std.specs.Prelude.{◌≡◌, ℕ, ◌/◌, ◌%◌, ◌^◌, ◌<◌, ◌≤◌, count_ones}
use Rattle.pon_units.specs.Polynomial.{remainder}
use Rattle.pon_hec.specs.HeaderCode.{generator}

-- an error pattern of at most two bits: all its bits but the last have this remainder, and their number is odd (1) or
-- even (0)
pub record Leaves (wrong left odd : ℕ) : Type 0 where
  pub below : wrong < 2 ^ 64
  pub few : count_ones wrong ≤ 2
  pub rest : remainder generator 12 51 (wrong / 2) ≡ left
  pub parity : count_ones wrong % 2 ≡ odd
