-- The table of the places of tallies, by Alloc-ID.
use Rattle.std.specs.Prelude.{ℕ, ◌≡◌, ◌<◌, List, length, map, slice_index}
use Rattle.pon_why.specs.declared.alloc_tallies.AllocTally.{AllocTally}

-- the Alloc-IDs of tallies, in their order
abbrev pub ids_of : List AllocTally → List ℕ
ids_of ts = map (λ t. t.alloc_id) ts

-- the table has the place of each tally at the number of its Alloc-ID
abbrev pub ArePlaced : List ℕ → List ℕ → Type 0
ArePlaced ids places = (k : ℕ) → k < length ids → slice_index places (slice_index ids k) ≡ k

-- no tally of the Alloc-ID is at the place
abbrev pub LacksAt : ℕ → ℕ → List ℕ → Type 0
LacksAt place i ids = place < length ids → slice_index ids place ≡ i → ⊥
