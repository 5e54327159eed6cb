use Rattle.pon_history.proofs.FairMaps.{maps_are_fair}
use Rattle.pon_history.proofs.laws.maps_of_lawful_chapters_are_fair.Goals as goal

pub returns : goal.returns
returns c = maps_are_fair
