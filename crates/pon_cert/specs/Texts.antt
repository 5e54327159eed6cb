-- The ranges of certificates.
use Rattle.std.specs.Prelude.{◌<◌, ◌≤◌, ◌^◌, length}
use Rattle.pon_cert.specs.declared.problem.TheConstants.{MAX_ITEMS}
use Rattle.pon_cert.specs.declared.cert.Level.{Level}
use Rattle.pon_cert.specs.declared.cert.Level.TheVariants as level
use Rattle.pon_cert.specs.declared.cert.ClassCert.{ClassCert}
use Rattle.pon_cert.specs.declared.cert.MapCert.{MapCert}

-- both numbers of a fraction are below 2^64, and its denominator is above 0
abbrev pub FitsLevel : Level → Type 0
FitsLevel level.All = Unit {0}
FitsLevel (level.At f) = (f.num < 2 ^ 64) × (0 < f.den) × (f.den < 2 ^ 64)

-- a level in range, and flags of at most as many items as a class problem has
pub record FitsClass (cert : ClassCert) : Type 0 where
  pub level : FitsLevel cert.level
  pub count : length cert.saturated ≤ MAX_ITEMS

pub record FitsCert (cert : MapCert) : Type 0 where
  pub non_assured : FitsClass cert.na
  pub best_effort : FitsClass cert.be
