-- The surplus that a class leaves is its surplus less the rates of its certificate.
use Rattle.std.proofs.Common.{◌≡◌, ℕ, ◌+◌, ◌*◌, Bool, List, [], ◌∷◌, refl, arith}
use Rattle.std.specs.Prelude.{sum, sum_by}
use Rattle.std.specs.List.{zip, AllZip}
use Rattle.std.proofs.lemmas.List.Sums.{sum-map, sum_by-cons}
use Rattle.pon_cert.specs.declared.problem.Item.{Item}
use Rattle.pon_cert.specs.declared.cert.Level.{Level}
use Rattle.pon_cert.specs.declared.cert.Level.TheVariants as level
use Rattle.pon_cert.specs.Certificate.{IsCertificate, RuleHolds, amount, denominator, left_surplus, spelled}

-- at a level of all the rates are the caps
caps_spelled : (items : List Item) (saturated : List Bool) → AllZip (RuleHolds level.All) items saturated → sum_by (λ p. amount level.All p.0 p.1) (zip items saturated) ≡ sum_by (λ item. item.cap) items
caps_spelled [] [] rules = refl
caps_spelled (item ∷ items) (flag ∷ flags) rules =
    rw (sum_by-cons (λ p. amount level.All p.0 p.1) (item, flag) (zip items flags), sum_by-cons (λ i. i.cap) item items, caps_spelled items flags rules.1) refl
caps_spelled [] (flag ∷ flags) rules = absurd rules
caps_spelled (item ∷ items) [] rules = absurd rules

pub left_rest : (items : List Item) (surplus : ℕ) (l : Level) (flags : List Bool) → IsCertificate items surplus (record { level = l; saturated = flags }) → sum (spelled items (record { level = l; saturated = flags })).amounts + denominator l * left_surplus l items surplus ≡ denominator l * surplus
left_rest items surplus level.All flags cert = omega (arith, sum-map (λ p. amount level.All p.0 p.1) (zip items flags), caps_spelled items flags cert.rules, cert.total)
left_rest items surplus (level.At f) flags cert = omega (arith, cert.total)
