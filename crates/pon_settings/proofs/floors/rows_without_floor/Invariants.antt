use Rattle.std.proofs.Common.{◌≡◌, map, take}
use Rattle.std.specs.Prelude.{filter}
use Rattle.pon_settings.specs.Floors.{lacks_floor}
use Rattle.pon_settings.specs.Rows.{roster_after}
use Rattle.pon_settings.proofs.floors.rows_without_floor.Given as goal

-- those of the rows so far
abbrev pub invariant-loop-settings_row : goal.invariant-loop-settings_row
invariant-loop-settings_row l = l.found.items ≡ filter (lacks_floor (roster_after l.port.opening.0.gap l.port.rows)) (map (λ r. r.row) (take l.settings_row-index l.port.rows))
