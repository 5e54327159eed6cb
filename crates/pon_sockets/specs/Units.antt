-- The simulated units of a port.
use Rattle.std.specs.Prelude.{ℕ, ◌==◌, ◌++◌, Bool, if◌then◌else◌, List, [], ◌∷◌, map, filter, take}
use Rattle.std.specs.List.{list_any}
use Rattle.pon_units.specs.declared.limits.TheConstants.{MAX_SERIES}
use Rattle.pon_link.specs.Units.{UnitState}
use Rattle.pon_settings.specs.declared.row.SettingsRow.{SettingsRow}

-- whether a row is of the ONU
abbrev pub is_row_of : ℕ → SettingsRow → Bool
is_row_of onu r = r.row.onu == onu

-- the number of waiting words of each Alloc-ID of an ONU, in the order of the rows
abbrev pub own_queues : List SettingsRow → ℕ → List (ℕ × ℕ)
own_queues rows onu = map (λ r. (r.row.alloc_id, r.queue)) (filter (is_row_of onu) rows)

-- the first 16 queues of an ONU
abbrev pub queues_of : List SettingsRow → ℕ → List (ℕ × ℕ)
queues_of rows onu = take MAX_SERIES (own_queues rows onu)

-- the units of the ONUs whose first row is in this part of all rows, given the rows before this part
abbrev pub units_after : List SettingsRow → List SettingsRow → List SettingsRow → List UnitState
units_after all before [] = []
units_after all before (r ∷ rs) =
    if list_any (is_row_of r.row.onu) before then units_after all (before ++ r ∷ []) rs
    else (record { onu = r.row.onu; queues = queues_of all r.row.onu }) ∷ units_after all (before ++ r ∷ []) rs

-- one unit for each ONU that has rows
abbrev pub units_of : List SettingsRow → List UnitState
units_of rows = units_after rows [] rows
