-- The rates of a class, and the certificate of a map: it is unique.
use Rattle.std.proofs.Common.{◌≡◌, ℕ, ◌≤◌, Bool, true, false, cond, List, [], ◌∷◌, map, refl, ap, sym, ◌∙◌, subst, arith}
use Rattle.std.specs.List.{zip}
use Rattle.pon_units.specs.declared.limits.TheConstants.{LINE_RATE}
use Rattle.pon_units.specs.Frac.{Frac}
use Rattle.pon_descr.specs.declared.class.Class.{Class}
use Rattle.pon_descr.specs.declared.class.Class.TheVariants.{Plain, NonAssured, BestEffort}
use Rattle.pon_admit.specs.Roster.{IsAdmitted}
use Rattle.pon_admit.specs.declared.row.Row.{Row}
use Rattle.pon_cert.specs.declared.problem.Item.{Item}
use Rattle.pon_cert.specs.declared.cert.Level.{Level}
use Rattle.pon_cert.specs.declared.cert.Level.TheVariants as level
use Rattle.pon_cert.specs.declared.cert.ClassCert.{ClassCert}
use Rattle.pon_cert.specs.declared.cert.MapCert.{MapCert}
use Rattle.pon_cert.specs.Problem.{AreWeighted, IsProblem}
use Rattle.pon_cert.specs.Certificate.{IsCertificate, amount, denominator, left_surplus, spelled}
use Rattle.pon_cert.proofs.OneCertificate.{one_certificate}
use Rattle.pon_demand.specs.Input.{Input}
use Rattle.pon_demand.specs.ClassShares.{rates_of}
use Rattle.pon_demand.specs.Sharing.{IsCertified, is_saturated, item_of, items, members, rate_in, same_class, spelled_rate, surplus}
use Rattle.pon_demand.proofs.ClassItems.{problem_of, surplus_range}
use Rattle.pon_demand.proofs.Surplus.{flags_each}

-- The rates of a class.

-- two functions that agree on a class agree on its members
pub members_agree : (class : Class) (f g : Row → Frac) → ((r : Row) → same_class r.descriptor.class class ≡ true → f r ≡ g r) → (rows : List Row) → map f (members class rows) ≡ map g (members class rows)
members_agree class f g h [] = refl
members_agree class f g h (r ∷ rows) = at (members_agree class f g h rows) (same_class r.descriptor.class class) refl
  where
    at : map f (members class rows) ≡ map g (members class rows) → (b : Bool) → same_class r.descriptor.class class ≡ b → map f (cond b (r ∷ members class rows) (members class rows)) ≡ map g (cond b (r ∷ members class rows) (members class rows))
    at rest true e = (λ k. h r e k ∷ rest k)
    at rest false e = rest

pub non_assured_alone : (c : Class) (na be : Frac) → same_class c NonAssured ≡ true → rate_in c na be ≡ na
non_assured_alone Plain na be e = absurd (let t : false ≡ true = e in cc)
non_assured_alone NonAssured na be e = refl
non_assured_alone BestEffort na be e = absurd (let t : false ≡ true = e in cc)

pub best_effort_alone : (c : Class) (na be : Frac) → same_class c BestEffort ≡ true → rate_in c na be ≡ be
best_effort_alone Plain na be e = absurd (let t : false ≡ true = e in cc)
best_effort_alone NonAssured na be e = absurd (let t : false ≡ true = e in cc)
best_effort_alone BestEffort na be e = refl

abbrev over : ℕ → ℕ → Frac
over d n = record { num = n; den = d }

rates_each : (l : Level) (g : Row → Item) (sat : Row → Bool) (d : ℕ) (rows : List Row) →
    map (λ r. over d (amount l (g r) (sat r))) rows ≡ map (over d) (map (λ p. amount l p.0 p.1) (zip (map g rows) (map sat rows)))
rates_each l g sat d [] = refl
rates_each l g sat d (r ∷ rows) = (λ k. over d (amount l (g r) (sat r)) ∷ rates_each l g sat d rows k)

-- the rates of the members are those that the certificate gives, in map order
pub spelled_rates : (s : Input) (class : Class) (cert : ClassCert) (left : ℕ) (k : IsAdmitted s.rule s.gap s.roster) → IsCertificate (items class s) left cert →
    map (spelled_rate s class cert) (members class s.roster) ≡ rates_of (spelled (items class s) cert)
spelled_rates s class cert left k c =
    rates_each cert.level (item_of s) spelled_flag (denominator cert.level) (members class s.roster)
    ∙ ap (λ flags. map (over (denominator cert.level)) (map (λ p. amount cert.level p.0 p.1) (zip (items class s) flags))) (flags_each s class cert left k.apart c)
  where
    spelled_flag : Row → Bool
    spelled_flag r = is_saturated class s.roster cert r.alloc_id

pub left_within : (l : Level) (is : List Item) (n : ℕ) → n ≤ LINE_RATE → left_surplus l is n ≤ LINE_RATE
left_within level.All is n h = omega (arith, h)
left_within (level.At f) is n h = omega arith

-- The certificate of a map.
module _ (s : Input) (k : IsAdmitted s.rule s.gap s.roster) where
  pub weighted : (class : Class) → same_class class Plain ≡ false → AreWeighted (items class s)
  weighted class shares =
      let problem : IsProblem (items class s) (surplus s) = problem_of s class (surplus s) shares k.few_allocs k.in_range (surplus_range s) in
      λ n d lt. (problem.each n d lt).has_weight

  pub one_map_certificate : (a b : MapCert) → IsCertified s a → IsCertified s b → a ≡ b
  one_map_certificate a b p q =
      let na : a.na ≡ b.na = one_certificate (items NonAssured s) (surplus s) a.na b.na (weighted NonAssured refl) p.non_assured q.non_assured in
      let same_left : IsCertificate (items BestEffort s) (left_surplus a.na.level (items NonAssured s) (surplus s)) b.be
      = subst (λ c. IsCertificate (items BestEffort s) (left_surplus c.level (items NonAssured s) (surplus s)) b.be) (sym na) q.best_effort in
      let be : a.be ≡ b.be = one_certificate (items BestEffort s) (left_surplus a.na.level (items NonAssured s) (surplus s)) a.be b.be (weighted BestEffort refl) p.best_effort same_left in
      (λ i. record { na = na i; be = be i })
