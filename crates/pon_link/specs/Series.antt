-- The series of a bandwidth map (ITU-T G.987.3): each is a structure with a start and those after it without one.
use Rattle.std.specs.Prelude.{◌≡◌, ℕ, ◌+◌, ◌<◌, true, false, List, [], ◌∷◌, ◌++◌, length, slice_get}
use Rattle.pon_units.specs.declared.limits.TheConstants.{MAX_SERIES}
use Rattle.pon_bwmap.specs.Alloc.{Alloc}
use Rattle.pon_bwmap.specs.MapRules.{continues}

-- the first structure has a start, and no other has one
pub record IsSeries (rows : List Alloc) : Type 0 where
  pub some : 0 < length rows
  pub starts : continues (slice_get rows 0) ≡ false
  pub goes_on : (k : ℕ) → 0 < k → k < length rows → continues (slice_get rows k) ≡ true

-- the structures are these series, concatenated, and then the rest
abbrev pub AreSeries : List Alloc → List (List Alloc) → List Alloc → Type 0
AreSeries rows [] rest = rows ≡ rest
AreSeries rows (series ∷ others) rest = (later : List Alloc) × (rows ≡ series ++ later) × IsSeries series × AreSeries later others rest

-- structures that consist of series of at most MAX_SERIES structures: those of a map, from the start of a series on
pub record KeepsSeries (rows : List Alloc) : Type 0 where
  pub first : continues (slice_get rows 0) ≡ false
  pub short : (k : ℕ) → ((j : ℕ) → j < MAX_SERIES → continues (slice_get rows (k + j)) ≡ true) → ⊥
