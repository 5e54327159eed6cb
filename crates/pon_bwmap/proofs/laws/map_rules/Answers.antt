use Rattle.pon_bwmap.proofs.SeriesLaw.{map_rules}
use Rattle.pon_bwmap.proofs.laws.map_rules.Goals as goal

pub returns : goal.returns
returns c = map_rules
