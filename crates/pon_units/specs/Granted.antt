-- The grants of a map, and their order (ITU-T G.987.3: the allocation structures of a bandwidth map).
use Rattle.std.specs.Prelude.{ℕ, ◌≡◌, ◌<◌, ◌≤◌, List, map}
pub use Rattle.pon_units.specs.declared.granted.Granted.{Granted}
use Rattle.pon_lists.specs.Distinct.{distinct}
use Rattle.pon_lists.specs.Order.{IsInOrder}

-- the ONUs that have a grant, each once
abbrev pub onus_granted : List Granted → List ℕ
onus_granted gs = distinct (map (λ g. g.onu) gs)

-- a smaller ONU-ID, or the same ONU and a smaller Alloc-ID
abbrev pub ComesBefore : Granted → Granted → Type 0
ComesBefore g h = (g.onu ≤ h.onu) × (g.onu ≡ h.onu → g.alloc_id < h.alloc_id)

-- map order: each grant comes before all later ones
abbrev pub AreInMapOrder : List Granted → Type 0
AreInMapOrder gs = IsInOrder ComesBefore gs
