-- What maps give one Alloc-ID, map by map.
use Rattle.std.specs.Prelude.{ℕ, ◌==◌, if◌then◌else◌, List, [], ◌∷◌, ◌++◌, Option, Some, None}
use Rattle.pon_bwmap.specs.Alloc.{Alloc}
use Rattle.pon_why.specs.Sums.{amounts_of}
use Rattle.pon_why.specs.declared.followed.FollowedMap.{FollowedMap}
use Rattle.pon_why.specs.declared.rates.RowRates.{RowRates}

-- an Alloc-ID, and what maps give it, in their order
pub record Following : Type 0 where
  pub alloc_id : ℕ
  pub maps : List FollowedMap

-- with later maps
abbrev pub with_maps : Following → List FollowedMap → Following
with_maps f more = record { alloc_id = f.alloc_id; maps = f.maps ++ more }

-- what the map of a frame gives an Alloc-ID: that of its row, if it has one
abbrev pub map_of : ℕ → ℕ → List RowRates → List Alloc → Option FollowedMap
map_of i frame (x ∷ xs) (a ∷ more) = if x.alloc_id == i then Some (record { frame = frame; sums = amounts_of x a }) else map_of i frame xs more
map_of i frame (x ∷ xs) [] = None
map_of i frame [] more = None
