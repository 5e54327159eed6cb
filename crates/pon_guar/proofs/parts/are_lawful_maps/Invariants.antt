use Rattle.std.proofs.Common.{take}
use Rattle.std.specs.Prelude.{All}
use Rattle.pon_guar.specs.Window.{IsLawfulMap}
use Rattle.pon_guar.proofs.parts.are_lawful_maps.Given as goal

-- the maps so far are lawful
abbrev pub invariant-loop-map : goal.invariant-loop-map
invariant-loop-map l = All IsLawfulMap (take l.map-index l.maps)
