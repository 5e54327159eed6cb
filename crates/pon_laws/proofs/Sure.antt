-- The surplus that no reports can take from a class.
use Rattle.std.proofs.Common.{◌≡◌, ℕ, ◌+◌, ◌*◌, ◌<◌, ◌≤◌, cond, List, [], ◌∷◌, map, arith}
use Rattle.std.specs.Prelude.{Contains, sum, sum_by}
use Rattle.std.specs.List.{AllByRecursion, AllZip}
use Rattle.std.proofs.Math.Nat.{le_of_mul-le-mul_left, mul-le-mul_left}
use Rattle.std.proofs.lemmas.List.Elements.{recursion_from_All}
use Rattle.std.proofs.lemmas.List.Sums.{sum_by-cons}
use Rattle.pon_units.specs.Frac.{Frac}
use Rattle.pon_descr.specs.declared.class.Class.{Class}
use Rattle.pon_descr.specs.declared.class.Class.TheVariants.{Plain, NonAssured, BestEffort}
use Rattle.pon_descr.specs.Descriptor.{promised}
use Rattle.pon_admit.specs.declared.row.Row.{Row}
use Rattle.pon_admit.specs.Roster.{IsAdmitted, IsInRange, promised_sum}
use Rattle.pon_cert.specs.declared.problem.Item.{Item}
use Rattle.pon_cert.specs.declared.cert.Level.{Level}
use Rattle.pon_cert.specs.declared.cert.Level.TheVariants as level
use Rattle.pon_cert.specs.declared.cert.MapCert.{MapCert}
use Rattle.pon_cert.specs.Certificate.{SumHolds, denominator, left_surplus, spelled}
use Rattle.pon_cert.proofs.Fairness.{is_feasible}
use Rattle.pon_demand.specs.Input.{Input}
use Rattle.pon_demand.specs.Rates.{guaranteed_rate}
use Rattle.pon_demand.specs.Sharing.{IsCertified, item_of, items, members, same_class, surplus, surplus_rate}
use Rattle.pon_sure.specs.Sure.{class_weight, most_before, most_before_best_effort, sure_surplus, weight_of}
use Rattle.pon_laws.specs.Shares.{GetsLess, HasPart, class_surplus}
use Rattle.pon_laws.proofs.ClassParts.{each_part}

-- amounts within the caps, over d, are at most d times the caps
within : (d : ℕ) (is : List Item) (ys : List ℕ) → AllZip (λ i y. y ≤ d * i.cap) is ys → sum ys ≤ d * sum_by (λ i. i.cap) is
within d [] [] h = omega arith
within d [] (y ∷ ys) h = absurd h
within d (i ∷ is) [] h = absurd h
within d (i ∷ is) (y ∷ ys) h =
    let total : sum (y ∷ ys) ≡ y + sum ys = sum_by-cons (λ (n : ℕ). n) y ys in
    rw (sum_by-cons (λ (j : Item). j.cap) i is) (omega (arith, total, h.0, within d is ys h.1))

-- a class leaves all that its members cannot use
leaves : (l : Level) (is : List Item) (total surplus : ℕ) → 0 < denominator l → total ≤ denominator l * sum_by (λ i. i.cap) is → SumHolds l total surplus → surplus ≤ sum_by (λ i. i.cap) is + left_surplus l is surplus
leaves level.All is total surplus h caps sum = omega arith
leaves (level.At f) is total surplus h caps sum =
    let le : f.den * surplus ≤ f.den * sum_by (λ i. i.cap) is = omega (arith, caps, sum) in
    let all : surplus ≤ sum_by (λ i. i.cap) is = le_of_mul-le-mul_left le h in
    omega (arith, all)

module _ (s : Input) where
  row_promised : (r : Row) → guaranteed_rate s r ≤ promised r.descriptor
  row_promised r = omega arith

  rows_promised : (rows : List Row) → sum_by (guaranteed_rate s) rows ≤ promised_sum rows
  rows_promised [] = omega arith
  rows_promised (r ∷ rows) = omega (arith, sum_by-cons (guaranteed_rate s) r rows, sum_by-cons (λ r. promised r.descriptor) r rows, row_promised r, rows_promised rows)

  abbrev caps : List Row → ℕ
  caps rows = sum_by (λ i. i.cap) (map (item_of s) rows)

  -- guaranteed rates and the caps of the non-assured class are at most what their owners may take before best effort
  rows_most : (rows : List Row) → AllByRecursion IsInRange rows → sum_by (guaranteed_rate s) rows + caps (members NonAssured rows) ≤ sum_by most_before_best_effort rows
  rows_most [] h = omega arith
  rows_most (r ∷ rows) h =
      rw (sum_by-cons (guaranteed_rate s) r rows, sum_by-cons most_before_best_effort r rows)
      (one r.descriptor.class (rows_most rows h.1))
    where
      enough : promised r.descriptor ≤ r.descriptor.max
      enough = h.0.descriptor.enough

      one : (class : Class) → sum_by (guaranteed_rate s) rows + caps (members NonAssured rows) ≤ sum_by most_before_best_effort rows →
          (guaranteed_rate s r + sum_by (guaranteed_rate s) rows) + caps (cond (same_class class NonAssured) (r ∷ members NonAssured rows) (members NonAssured rows))
          ≤ most_before class r + sum_by most_before_best_effort rows
      one Plain rest = omega (arith, rest)
      one NonAssured rest = omega (arith, sum_by-cons (λ (i : Item). i.cap) (item_of s r) (map (item_of s) (members NonAssured rows)), rest, enough)
      one BestEffort rest = omega (arith, rest)

module _ (s : Input) (cert : MapCert) (k : IsAdmitted s.rule s.gap s.roster) (c : IsCertified s cert) where
  sure : (class : Class) → sure_surplus class s.rule s.gap s.roster ≤ class_surplus class s cert
  sure Plain = omega arith
  sure NonAssured = omega (arith, rows_promised s s.roster)
  sure BestEffort =
      let feasible = is_feasible (items NonAssured s) (surplus s) cert.na c.non_assured in
      omega (
        arith,
        rows_most s s.roster (recursion_from_All IsInRange s.roster k.in_range),
        leaves cert.na.level (items NonAssured s) (sum (spelled (items NonAssured s) cert.na).amounts) (surplus s) feasible.has_over
            (within (denominator cert.na.level) (items NonAssured s) (spelled (items NonAssured s) cert.na).amounts feasible.within_caps) c.non_assured.total,
      )

  less_too : (small large weight all : ℕ) (rate : Frac) → small ≤ large → HasPart large weight all rate → HasPart small weight all rate
  less_too small large weight all rate le h = omega (arith, h, mul-le-mul_left (weight * rate.den) le)

  pub each_sure_part : (class : Class) (r : Row) → Contains (members class s.roster) r → GetsLess s cert r →
      HasPart (sure_surplus class s.rule s.gap s.roster) (weight_of r) (class_weight class s.roster) (surplus_rate s cert r)
  each_sure_part class r in_it less =
      less_too (sure_surplus class s.rule s.gap s.roster) (class_surplus class s cert) (weight_of r) (class_weight class s.roster) (surplus_rate s cert r)
      (sure class) (each_part s cert k c class r in_it less)
