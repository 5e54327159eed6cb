use Rattle.pon_demand.proofs.RosterMaps.{admitted_map_is_sound}
use Rattle.pon_history.proofs.laws.maps_of_admitted_sets_are_sound.Goals as goal

pub returns : goal.returns
returns c = λ s cert carry profile k certified small. admitted_map_is_sound s cert carry k certified small profile
