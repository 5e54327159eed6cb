use Rattle.pon_burst.proofs.MapRules.{sound_of_rising}
use Rattle.pon_burst.proofs.laws.grants_in_map_order_have_sound_bursts.Goals as goal

pub returns : goal.returns
returns c = sound_of_rising
