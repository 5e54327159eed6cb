-- The answer of a simulated ONU to a bandwidth map: its reports (DBRu, ITU-T G.987.3), and the words that wait after
-- it.
use Rattle.std.specs.Prelude.{ℕ, ◌-◌, ◌==◌, ◌&&◌, min, Bool, if◌then◌else◌, List, [], ◌∷◌, map, take, filter, Option, Some}
use Rattle.std.specs.List.{list_any}
use Rattle.pon_units.specs.declared.limits.TheConstants.{MAX_OCCUPANCY, MAX_SERIES}
use Rattle.pon_bwmap.specs.Alloc.{Alloc}

-- a simulated ONU: its ONU-ID, and the words that wait for each of its own Alloc-IDs
pub record UnitState : Type 0 where
  pub onu : ℕ
  pub queues : List (ℕ × ℕ)

-- one of these queues has this Alloc-ID
abbrev pub owns : List (ℕ × ℕ) → ℕ → Bool
owns queues id = list_any (λ q. q.0 == id) queues

-- a structure requests a report of one of these queues
abbrev pub asks : List (ℕ × ℕ) → Alloc → Bool
asks queues a = a.dbru && owns queues a.id

-- the structures of a map that an ONU with these queues answers: the first 16 that request a report of it
abbrev pub answered : List (ℕ × ℕ) → List Alloc → List Alloc
answered queues rows = take MAX_SERIES (filter (asks queues) rows)

-- the words that wait for an Alloc-ID
abbrev pub waiting : List (ℕ × ℕ) → ℕ → ℕ
waiting [] id = 0
waiting (q ∷ queues) id = if q.0 == id then q.1 else waiting queues id

-- A queue after a structure: if it has the structure's Alloc-ID, it is reduced by the granted words less the report's
-- one.
abbrev pub queue_after : Alloc → ℕ × ℕ → ℕ × ℕ
queue_after a q = if q.0 == a.id then (q.0, q.1 - (a.grant - 1)) else q

-- the queues after these structures, in order
abbrev pub served : List (ℕ × ℕ) → List Alloc → List (ℕ × ℕ)
served queues [] = queues
served queues (a ∷ rows) = served (map (queue_after a) queues) rows

-- The reports for these structures, in order: the words that wait then, or the maximum of a report.
abbrev pub reported_occupancies : List (ℕ × ℕ) → List Alloc → List (Option ℕ)
reported_occupancies queues [] = []
reported_occupancies queues (a ∷ rows) = Some (min (waiting queues a.id) MAX_OCCUPANCY) ∷ reported_occupancies (map (queue_after a) queues) rows
