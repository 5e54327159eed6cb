-- Filling: items are saturated one after another, each when its cap is met at the level of what is left.
use Rattle.std.specs.Prelude.{◌≡◌, ℕ, ◌*◌, ◌<◌, ◌≤◌, Bool, true, false, List, length, slice_index_or, sum_by, if◌then◌else◌}
use Rattle.std.specs.List.{zip}
use Rattle.pon_units.specs.declared.limits.TheConstants.{LINE_RATE}
use Rattle.pon_cert.specs.declared.problem.TheConstants.{MAX_ITEMS}
use Rattle.pon_cert.specs.declared.problem.Item.{Item}
use Rattle.pon_cert.specs.declared.cert.Level.{Level}
use Rattle.pon_cert.specs.declared.cert.Level.TheVariants as level
use Rattle.pon_cert.specs.Certificate.{unsaturated_weight}
use Rattle.pon_fill.specs.declared.rest.Rest.{Rest}

-- the sum of the caps of the saturated items
abbrev pub saturated_caps : List Item → List Bool → ℕ
saturated_caps items saturated = sum_by (λ p. if p.1 then p.0.cap else 0) (zip items saturated)

-- the level of what is left: `All` exactly when no weight is left
abbrev pub IsLevel : Rest → Level → Type 0
IsLevel rest level.All = rest.weight ≡ 0
IsLevel rest (level.At f) = (0 < rest.weight) × (f ≡ record { num = rest.surplus; den = rest.weight })

-- no more than the line's rate is left, and no more than the weight of MAX_ITEMS items
abbrev pub IsInRange : Rest → Type 0
IsInRange rest = (rest.surplus ≤ LINE_RATE) × (rest.weight ≤ MAX_ITEMS * LINE_RATE)

-- the weight that is left is the weight of the items that are not saturated; the caps of the saturated items are met at the level
pub record IsFilling (items : List Item) (rest : Rest) (saturated : List Bool) : Type 0 where
  pub long : length saturated ≡ length items
  pub weight : rest.weight ≡ unsaturated_weight items saturated
  pub met : (i : ℕ) (d : Item) → i < length items → slice_index_or saturated i false ≡ true
      → (slice_index_or items i d).cap * rest.weight ≤ (slice_index_or items i d).weight * rest.surplus

-- the caps of the items that are not saturated are above the level
abbrev pub IsFilled : List Item → Rest → List Bool → Type 0
IsFilled items rest saturated =
    (i : ℕ) (d : Item) → i < length items → slice_index_or saturated i false ≡ false
    → (slice_index_or items i d).weight * rest.surplus < (slice_index_or items i d).cap * rest.weight
