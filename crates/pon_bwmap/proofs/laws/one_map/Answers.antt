use Rattle.pon_bwmap.proofs.OneMap.{one_map}
use Rattle.pon_bwmap.proofs.laws.one_map.Goals as goal

pub returns : goal.returns
returns c = one_map
