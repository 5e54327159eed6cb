use Rattle.std.proofs.Common.{◌≡◌, ◌++◌, map, take}
use Rattle.pon_settings.specs.Ports.{admission}
use Rattle.pon_settings.proofs.terminal.add_steps.Given as goal

abbrev pub invariant-loop-settings_row : goal.invariant-loop-settings_row
invariant-loop-settings_row l = l.steps.items ≡ l.initial.steps.items ++ map (admission l.port) (take l.settings_row-index l.rows)
