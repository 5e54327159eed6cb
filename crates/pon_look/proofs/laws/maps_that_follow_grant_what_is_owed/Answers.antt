use Rattle.pon_look.proofs.Owed.{none_below}
use Rattle.pon_look.proofs.laws.maps_that_follow_grant_what_is_owed.Goals as goal

pub returns : goal.returns
returns c = none_below
