-- The certificates of maps fit the format of recordings.
use Rattle.std.proofs.Common.{◌≡◌, ℕ, ◌*◌, ◌<◌, ◌≤◌, Bool, true, false, cond, List, [], ◌∷◌, length, arith}
use Rattle.std.specs.List.{AllByRecursion, AllZip, zip}
use Rattle.std.proofs.Math.Nat.{le-mul_of_pos_right, mul_comm, mul-le-mul_right}
use Rattle.std.proofs.lemmas.Slice.Zip.{AllZip-long}
use Rattle.std.proofs.lemmas.List.Elements.{recursion_from_All}
use Rattle.std.proofs.lemmas.List.Sums.{sum_by-cons}
use Rattle.pon_cert.specs.declared.problem.TheConstants.{MAX_ITEMS}
use Rattle.pon_units.specs.declared.limits.TheConstants.{LINE_RATE}
use Rattle.pon_units.specs.Frac.{Frac}
use Rattle.pon_cert.specs.declared.problem.Item.{Item}
use Rattle.pon_cert.specs.declared.cert.Level.{Level}
use Rattle.pon_cert.specs.declared.cert.Level.TheVariants as level
use Rattle.pon_cert.specs.declared.cert.ClassCert.{ClassCert}
use Rattle.pon_cert.specs.Certificate.{DenominatorHolds, IsCertificate, RuleHolds, unsaturated_weight}
use Rattle.pon_cert.specs.Problem.{IsItem, IsProblem}
use Rattle.pon_cert.specs.Texts.{FitsClass, FitsLevel}

-- the weight of an item that is not saturated, otherwise 0
abbrev open_weight : Item × Bool → ℕ
open_weight p = cond p.1 0 p.0.weight

open_few : (is : List Item) (ss : List Bool) → AllByRecursion IsItem is → unsaturated_weight is ss ≤ LINE_RATE * length is
open_few [] ss a = omega arith
open_few (i ∷ is) [] a = omega arith
open_few (i ∷ is) (true ∷ ss) a = omega (arith, sum_by-cons open_weight (i, true) (zip is ss), open_few is ss a.1)
open_few (i ∷ is) (false ∷ ss) a = omega (arith, sum_by-cons open_weight (i, false) (zip is ss), open_few is ss a.1, a.0.weight_range)

-- the level is below the cap of some item
level_below : (f : Frac) (is : List Item) (ss : List Bool) → AllZip (RuleHolds (level.At f)) is ss → AllByRecursion IsItem is → 0 < unsaturated_weight is ss → f.num < LINE_RATE * f.den
level_below f [] [] z a some = absurd (omega (arith, some))
level_below f [] (b ∷ ss) z a some = absurd z
level_below f (i ∷ is) [] z a some = absurd z
level_below f (i ∷ is) (true ∷ ss) z a some = level_below f is ss z.1 a.1 (omega (arith, some, sum_by-cons open_weight (i, true) (zip is ss)))
level_below f (i ∷ is) (false ∷ ss) z a some =
    let weighted : f.num ≤ f.num * i.weight = le-mul_of_pos_right f.num a.0.has_weight in
    let turned : f.num * i.weight ≡ i.weight * f.num = mul_comm f.num i.weight in
    let capped : i.cap * f.den ≤ LINE_RATE * f.den = mul-le-mul_right f.den a.0.cap_range in
    let rule : i.weight * f.num < i.cap * f.den = z.0 in
    omega (arith, weighted, turned, capped, rule)

level_fits : (l : Level) (is : List Item) (ss : List Bool) → AllZip (RuleHolds l) is ss → DenominatorHolds l is ss → AllByRecursion IsItem is → length is ≤ MAX_ITEMS → FitsLevel l
level_fits level.All is ss z d a few = tt
level_fits (level.At f) is ss z d a few =
    let most : unsaturated_weight is ss ≤ LINE_RATE * length is = open_few is ss a in
    let low : f.num < LINE_RATE * f.den = level_below f is ss z a (omega (arith, d.0, d.1)) in
    (omega (arith, low, most, few, d.1), d.0, omega (arith, most, few, d.1))

pub class_cert_fits : (is : List Item) (n : ℕ) (cert : ClassCert) → IsProblem is n → IsCertificate is n cert → FitsClass cert
class_cert_fits is n cert p c = record {
  level = level_fits cert.level is cert.saturated c.rules c.denominator (recursion_from_All IsItem is p.each) p.count;
  count = omega (arith, AllZip-long (RuleHolds cert.level) is cert.saturated c.rules, p.count);
}
