-- The surplus of each of the two classes, and the rates that a certificate gives them.
use Rattle.std.specs.Prelude.{ℕ, List, map}
use Rattle.pon_units.specs.Frac.{Frac}
use Rattle.pon_descr.specs.declared.class.Class.TheVariants.{NonAssured, BestEffort}
use Rattle.pon_cert.specs.declared.cert.MapCert.{MapCert}
use Rattle.pon_cert.specs.Problem.{Assignment}
use Rattle.pon_cert.specs.Certificate.{left_surplus, spelled}
use Rattle.pon_demand.specs.Input.{Input}
use Rattle.pon_demand.specs.Sharing.{items, surplus}

-- the non-assured class shares what the guaranteed rates leave
abbrev pub non_assured_surplus : Input → ℕ
non_assured_surplus s = surplus s

-- best effort shares what the non-assured class leaves
abbrev pub best_effort_surplus : Input → MapCert → ℕ
best_effort_surplus s cert = left_surplus cert.na.level (items NonAssured s) (surplus s)

-- the rates that the level and the saturated set of a class give
abbrev pub non_assured_share : Input → MapCert → Assignment
non_assured_share s cert = spelled (items NonAssured s) cert.na

abbrev pub best_effort_share : Input → MapCert → Assignment
best_effort_share s cert = spelled (items BestEffort s) cert.be

-- an assignment as fractions, item by item
abbrev pub rates_of : Assignment → List Frac
rates_of y = map (λ n. record { num = n; den = y.over }) y.amounts
