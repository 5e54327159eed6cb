use Rattle.std.proofs.Common.{map, take}
use Rattle.std.specs.List.{AllZip}
use Rattle.toml.specs.View.{view}
use Rattle.pon_settings.specs.Ports.{SpellsPort}
use Rattle.pon_settings.proofs.document.ports_of.Given as goal

abbrev pub invariant-loop-i : goal.invariant-loop-i
invariant-loop-i l = AllZip SpellsPort (take l.i (map view l.tables)) l.ports.items
