-- The sums that a roster keeps: the number of ONUs that own a row, and the sum of the promised rates.
use Rattle.std.specs.Prelude.{ℕ, ◌≡◌, List, length}
use Rattle.pon_admit.specs.Roster.{Row, Rule, IsAdmitted, onus_of, promised_sum}

-- n is the number of ONUs that own a row, and s is the sum of the promised rates
pub record AreSums (n s : ℕ) (rows : List Row) : Type 0 where
  pub onus : n ≡ length (onus_of rows)
  pub promised : s ≡ promised_sum rows

-- the rows are an admitted set under the rule, and n and s are their sums
pub record IsKeptRoster (rule : Rule) (gap n s : ℕ) (rows : List Row) : Type 0 where
  pub admitted : IsAdmitted rule gap rows
  pub sums : AreSums n s rows
