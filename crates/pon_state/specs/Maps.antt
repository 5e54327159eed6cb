-- The maps of entries, and their grants.
use Rattle.std.specs.Prelude.{◌-◌, Bool, true, false, List, [], ◌∷◌}
use Rattle.pon_units.specs.declared.granted.Granted.{Granted}
use Rattle.pon_bwmap.specs.Alloc.{Alloc}
use Rattle.pon_admit.specs.declared.row.Row.{Row}
use Rattle.pon_admit.specs.declared.event.Event.{Event}
use Rattle.pon_admit.specs.declared.event.Event.TheVariants.{MakeMap}
use Rattle.pon_state.specs.declared.reply.Reply.{Reply}
use Rattle.pon_state.specs.declared.reply.Reply.TheVariants.{Taken, Map}

abbrev pub makes_map : Event → Bool
makes_map MakeMap = true
makes_map _ = false

-- the grants of a map's structures, each with the ONU that owns it
abbrev pub grants_in_map : List Row → List Alloc → List Granted
grants_in_map (r ∷ rows) (a ∷ more) = record { onu = r.onu; alloc_id = r.alloc_id; words = a.grant - 1 } ∷ grants_in_map rows more
grants_in_map [] more = []
grants_in_map (r ∷ rows) [] = []

abbrev pub structures : Reply → List Alloc
structures Taken = []
structures (Map made) = made.map
