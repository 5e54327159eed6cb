-- The map that grants the rates of its input, given its burst profile, and the surplus rate and the carry of each Alloc-ID.
use Rattle.std.specs.Prelude.{ℕ, List}
use Rattle.pon_units.specs.Frac.{Frac}
use Rattle.pon_bwmap.specs.Alloc.{Alloc}
use Rattle.pon_burst.specs.Maps.{map_granting}
use Rattle.pon_demand.specs.Input.{Input}
use Rattle.pon_admit.specs.declared.row.Row.{Row}
use Rattle.pon_demand.specs.Rates.{planned_grants}

-- a structure for each admitted Alloc-ID, in map order, that grants its words
abbrev pub map_of : ℕ → Input → (Row → Frac) → (Row → ℕ) → List Alloc
map_of profile s surplus carry = map_granting s.gap profile (planned_grants s surplus carry)
