-- Units that grow: an Alloc-ID gets an empty queue at the unit of its ONU.
use Rattle.std.specs.Prelude.{ℕ, ◌==◌, nat_lt, if◌then◌else◌, List, [], ◌∷◌, ◌++◌, length, position, slice_get, slice_set, Option, Some, None}
use Rattle.pon_units.specs.declared.limits.TheConstants.{MAX_SERIES}
use Rattle.pon_link.specs.Units.{UnitState}

-- a unit with one more queue, which is empty; a unit with 16 queues gets no more
abbrev pub with_queue : ℕ → UnitState → UnitState
with_queue alloc unit = if nat_lt (length unit.queues) MAX_SERIES then (record { onu = unit.onu; queues = unit.queues ++ (alloc, 0) ∷ [] }) else unit

-- the queue is added to this unit at this place
abbrev pub placed : ℕ → Option UnitState → List UnitState → ℕ → List UnitState
placed place None units alloc = units
placed place (Some unit) units alloc = slice_set units place (with_queue alloc unit)

-- the queue is added to the unit at this place, or to a unit of its own
abbrev pub grown_at : Option ℕ → List UnitState → ℕ → ℕ → List UnitState
grown_at None units onu alloc = units ++ (record { onu = onu; queues = (alloc, 0) ∷ [] }) ∷ []
grown_at (Some place) units onu alloc = placed place (slice_get units place) units alloc

-- an empty queue for an Alloc-ID at the first unit of this ONU, or at a new one
abbrev pub grown : List UnitState → ℕ → ℕ → List UnitState
grown units onu alloc = grown_at (position (λ unit. unit.onu == onu) units) units onu alloc
