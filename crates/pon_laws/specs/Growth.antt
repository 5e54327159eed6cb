-- Two problems of a class that differ in one item.
use Rattle.std.specs.Prelude.{ℕ, ◌*◌, ◌≤◌, List, slice_index}
use Rattle.pon_units.specs.Frac.{Frac}
use Rattle.pon_cert.specs.declared.problem.Item.{Item}
use Rattle.pon_cert.specs.declared.cert.Level.{Level}
use Rattle.pon_cert.specs.declared.cert.Level.TheVariants as level
use Rattle.pon_cert.specs.declared.cert.ClassCert.{ClassCert}
use Rattle.pon_cert.specs.Certificate.{denominator, spelled}

-- neither the weight nor the cap is lower
pub record Grows (old new : Item) : Type 0 where
  pub weight : old.weight ≤ new.weight
  pub cap : old.cap ≤ new.cap

-- the rate of the item at an index
abbrev pub rate_at : List Item → ClassCert → ℕ → Frac
rate_at items cert k = record { num = slice_index (spelled items cert).amounts k; den = denominator cert.level }

abbrev pub IsUpTo : Frac → Frac → Type 0
IsUpTo a b = a.num * b.den ≤ b.num * a.den

-- a level is at most another; a level of all is above each fraction
abbrev pub IsLevelUpTo : Level → Level → Type 0
IsLevelUpTo a level.All = Unit {0}
IsLevelUpTo level.All (level.At f) = ⊥
IsLevelUpTo (level.At f) (level.At g) = IsUpTo f g
