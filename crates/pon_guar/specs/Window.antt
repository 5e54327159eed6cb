-- The window of a port: its last maps, for which reports may still come.
use Rattle.std.specs.Prelude.{ℕ, ◌≡◌, ◌+◌, ◌-◌, ◌<◌, ◌≤◌, ◌==◌, nat_le, if◌then◌else◌, All, Bool, List, [], ◌∷◌, ◌++◌, drop, filter, find, flat_map, length, slice_index_or, sum_by, Option, Some, None}
use Rattle.std.specs.List.{list_any}
use Rattle.pon_units.specs.Granted.{AreInMapOrder, onus_granted}
use Rattle.pon_guar.specs.declared.window.TheConstants.{MAX_MAPS}
pub use Rattle.pon_units.specs.declared.granted.Granted.{Granted}

-- a map: its frame, its grants, and the ONUs that reported
pub record WindowMap : Type 0 where
  pub frame : ℕ
  pub grants : List Granted
  pub reported : List ℕ

abbrev pub is_of : ℕ → WindowMap → Bool
is_of frame m = m.frame == frame

-- the grants of an ONU in the map of a frame
abbrev pub grants_at : ℕ → ℕ → List WindowMap → List Granted
grants_at frame u window = filter (λ g. g.onu == u) (flat_map (λ m. m.grants) (filter (λ m. m.frame == frame) window))

-- the ONUs that a map polls, in its order
abbrev pub onus_polled : WindowMap → List ℕ
onus_polled m = onus_granted m.grants

-- the frames are consecutive, and the last one is that before the next frame
abbrev pub AreConsecutive : ℕ → List WindowMap → Type 0
AreConsecutive next [] = Unit {0}
AreConsecutive next (m ∷ ms) = (m.frame + length (m ∷ ms) ≡ next) × AreConsecutive next ms

-- the map at an index is of a frame
pub record IsPlaceOf (frame : ℕ) (ms : List WindowMap) (k : ℕ) : Type 0 where
  pub within : k < length ms
  pub is : (d : WindowMap) → (slice_index_or ms k d).frame ≡ frame

-- the frame after the last map
abbrev pub frame_after : List WindowMap → ℕ
frame_after [] = 0
frame_after (m ∷ ms) = m.frame + length (m ∷ ms)

-- the ONUs that reported are some of those that the map polls, in its order
pub record IsLawfulMap (m : WindowMap) : Type 0 where
  pub rising : AreInMapOrder m.grants
  pub reported : m.reported ≡ filter (λ u. list_any (λ v. v == u) m.reported) (onus_polled m)

-- at most 64 lawful maps, with consecutive frames
pub record IsWindow (window : List WindowMap) : Type 0 where
  pub few_maps : length window ≤ MAX_MAPS
  pub frames : AreConsecutive (frame_after window) window
  pub maps : All IsLawfulMap window

abbrev pub last_64 : {T : Type 0} → List T → List T
last_64 xs = drop (length xs - MAX_MAPS) xs

-- the window after a map of these grants is added
abbrev pub with_map : ℕ → List Granted → List WindowMap → List WindowMap
with_map frame gs window = last_64 (window ++ record { frame = frame; grants = gs; reported = [] } ∷ [])

-- the grants of the last map; none if the window is empty
abbrev pub latest_grants : List WindowMap → List Granted
latest_grants [] = []
latest_grants (m ∷ []) = m.grants
latest_grants (m ∷ next ∷ ms) = latest_grants (next ∷ ms)

-- Payload words.

-- the payload words of an Alloc-ID among grants, in one map, and in the maps from a frame on
abbrev pub words_among : ℕ → List Granted → ℕ
words_among i gs = sum_by (λ g. if g.alloc_id == i then g.words else 0) gs

abbrev pub words_in : ℕ → WindowMap → ℕ
words_in i m = words_among i m.grants

abbrev pub words_from : ℕ → ℕ → List WindowMap → ℕ
words_from i frame ms = sum_by (λ m. if nat_le frame m.frame then words_in i m else 0) ms

-- the payload words of an Alloc-ID under an ONU: of one grant, in one map, and in the maps from a frame on
abbrev pub words_granted : Option Granted → ℕ
words_granted None = 0
words_granted (Some g) = g.words

abbrev pub words_to : ℕ → ℕ → WindowMap → ℕ
words_to u i m = words_granted (find (λ g. g.alloc_id == i) (filter (λ g. g.onu == u) m.grants))

abbrev pub words_to_from : ℕ → ℕ → ℕ → List WindowMap → ℕ
words_to_from u i frame ms = sum_by (λ m. if nat_le frame m.frame then words_to u i m else 0) ms
