-- The buffer occupancy report of XG-PON (ITU-T G.987.3): the number of waiting words in three bytes, and a check byte.
use Rattle.std.specs.Prelude.{◌≡◌, ℕ, ◌+◌, ◌*◌, ◌^◌, ◌<◌, List}
use Rattle.std.specs.Int.{w32, to_be_bytes}
use Rattle.pon_units.specs.Polynomial.{IsMultiple}

-- x^8 + x^2 + x + 1
abbrev pub check_generator : ℕ
check_generator = 0b1_0000_0111

-- The four bytes report this number of words: the check byte is the remainder of the first three bytes times x^8
-- by the generator, so that the four bytes together are a multiple of it.
pub record Reports (bytes : List ℕ) (words : ℕ) : Type 0 where
  pub fits : words < 2 ^ 24
  pub check : ℕ
  pub check_fits : check < 2 ^ 8
  pub spelled : bytes ≡ to_be_bytes w32 (words * 2 ^ 8 + check)
  pub multiple : IsMultiple check_generator (words * 2 ^ 8 + check)
