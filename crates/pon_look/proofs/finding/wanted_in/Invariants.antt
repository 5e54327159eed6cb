use Rattle.std.proofs.Common.{◌<◌, length}
use Rattle.std.specs.Prelude.{IfSome}
use Rattle.pon_look.proofs.finding.wanted_in.Given as goal

-- the map found is one of the entries
abbrev pub invariant-loop-entry : goal.invariant-loop-entry
invariant-loop-entry l = IfSome l.found (λ map. map.entry < length l.entries)
