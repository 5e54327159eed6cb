-- Each problem has a certificate: each item that is saturated leaves less weight, so filling ends.
use Rattle.std.proofs.Common.{◌≡◌, ℕ, zero, suc, ◌+◌, ◌*◌, ◌<◌, ◌≤◌, Bool, true, false, List, [], ◌∷◌, length, get_or, set, replicate, refl, ◌∙◌, inl, inr, arith}
use Rattle.std.specs.Prelude.{sum_by, ◌⊎◌}
use Rattle.std.proofs.lemmas.Bool.{cases_lt}
use Rattle.pon_cert.specs.declared.problem.Item.{Item}
use Rattle.pon_cert.specs.declared.cert.Level.{Level}
use Rattle.pon_cert.specs.declared.cert.Level.TheVariants as level
use Rattle.pon_cert.specs.declared.cert.ClassCert.{ClassCert}
use Rattle.pon_cert.specs.Problem.{AreWeighted}
use Rattle.pon_cert.specs.Certificate.{IsCertificate}
use Rattle.pon_fill.specs.declared.rest.Rest.{Rest}
use Rattle.pon_fill.specs.Filling.{IsFilled, IsFilling, IsLevel, saturated_caps}
use Rattle.pon_fill.proofs.Filling.{certificate, none_filled, none_spent, step, without}

-- an item that is not saturated, and whose cap is met
record HasMet (is : List Item) (r : Rest) (bs : List Bool) : Type 0 where
  at : ℕ
  within : at < length is
  out : get_or bs at false ≡ false
  met : (d : Item) → (get_or is at d).cap * r.weight ≤ (get_or is at d).weight * r.surplus

search_met : (is : List Item) (r : Rest) (bs : List Bool) → length bs ≡ length is → HasMet is r bs ⊎ IsFilled is r bs
search_met [] r bs long = inr (λ i d lt out. absurd (omega (arith, lt)))
search_met (i ∷ is) r [] long = absurd (omega (arith, long))
search_met (i ∷ is) r (b ∷ bs) long = elim (search_met is r bs (omega (arith, long))) [
  | inl m ↦ inl (record { at = suc m.at; within = omega (arith, m.within); out = m.out; met = m.met })
  | inr none ↦ first b none
]
  where
    none_of : (b : Bool) → IsFilled is r bs → (b ≡ false → i.weight * r.surplus < i.cap * r.weight) → IsFilled (i ∷ is) r (b ∷ bs)
    none_of b none out zero d lt flag = out flag
    none_of b none out (suc k) d lt flag = none k d (omega (arith, lt)) flag

    first : (b : Bool) → IsFilled is r bs → HasMet (i ∷ is) r (b ∷ bs) ⊎ IsFilled (i ∷ is) r (b ∷ bs)
    first true none = inr (none_of true none (λ e. cc))
    first false none = elim (cases_lt (i.weight * r.surplus) (i.cap * r.weight)) [
      | inl lt ↦ inr (none_of false none (λ e. lt))
      | inr ge ↦ inl (record { at = 0; within = omega arith; out = refl; met = λ d. ge })
    ]

level_of : (r : Rest) → (l : Level) × IsLevel r l
level_of r = elim (cases_lt 0 r.weight) [
  | inl some ↦ (level.At (record { num = r.surplus; den = r.weight }), (some, refl))
  | inr none ↦ (level.All, omega (arith, none))
]

ends : (most : ℕ) (is : List Item) (surplus : ℕ) (r : Rest) (bs : List Bool) → r.weight < most → AreWeighted is → IsFilling is r bs → r.surplus + saturated_caps is bs ≡ surplus
    → (cert : ClassCert) × IsCertificate is surplus cert
ends zero is surplus r bs le w f spent = absurd (omega (arith, le))
ends (suc most) is surplus r bs le w f spent = elim (search_met is r bs f.long) [
  | inr none ↦ (let l = level_of r in (record { level = l.0; saturated = bs }, certificate is surplus r bs l.0 l.1 f spent none))
  | inl m ↦
      let d : Item = record { weight = 0; cap = 0 } in
      let taken = step is r bs m.at d f m.within m.out (w m.at d m.within) (m.met d) in
      ends most is surplus (without r (get_or is m.at d)) (set bs m.at true) (omega (arith, le, w m.at d m.within, taken.weight)) w taken.filling (taken.spent ∙ spent)
]

pub each_problem : (is : List Item) (surplus : ℕ) → AreWeighted is → (cert : ClassCert) × IsCertificate is surplus cert
each_problem is surplus w =
    ends (suc (sum_by (λ (i : Item). i.weight) is)) is surplus (record { surplus = surplus; weight = sum_by (λ (i : Item). i.weight) is }) (replicate (length is) false) (omega arith) w
    (none_filled is _ (length is) refl refl) (omega (arith, none_spent is (length is)))
