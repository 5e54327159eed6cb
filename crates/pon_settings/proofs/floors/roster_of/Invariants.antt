use Rattle.std.proofs.Common.{◌≡◌, take}
use Rattle.pon_settings.specs.Rows.{roster_after}
use Rattle.pon_settings.proofs.floors.roster_of.Given as goal

-- the rows so far are admitted
abbrev pub invariant-loop-settings_row : goal.invariant-loop-settings_row
invariant-loop-settings_row l = l.roster ≡ roster_after l.port.opening.0.gap (take l.settings_row-index l.port.rows)
