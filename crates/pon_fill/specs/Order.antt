-- The order in which caps are met as the level increases.
use Rattle.std.specs.Prelude.{◌≡◌, ℕ, ◌*◌, ◌<◌, ◌≤◌, List, length, slice_index, slice_index_or}
use Rattle.pon_cert.specs.declared.problem.Item.{Item}

-- the index of each item, sorted by cap over weight
pub record IsOrder (items : List Item) (numbers : List ℕ) : Type 0 where
  pub below : (k : ℕ) → k < length numbers → slice_index numbers k < length items
  pub each : (i : ℕ) → i < length items → (k : ℕ) × (k < length numbers) × (slice_index numbers k ≡ i)
  pub rising : (j k : ℕ) (d : Item) → j ≤ k → k < length numbers →
      (slice_index_or items (slice_index numbers j) d).cap * (slice_index_or items (slice_index numbers k) d).weight
      ≤ (slice_index_or items (slice_index numbers k) d).cap * (slice_index_or items (slice_index numbers j) d).weight
