use Rattle.std.proofs.Common.{◌≡◌, ◌++◌, drop}
use Rattle.pon_settings.specs.Ports.{steps_from}
use Rattle.pon_settings.proofs.terminal.Settings.steps.Given as goal

abbrev pub invariant-loop-i : goal.invariant-loop-i
invariant-loop-i l = l.steps.items ++ steps_from l.i (drop l.i l.fn.self) ≡ steps_from 0 l.fn.self
