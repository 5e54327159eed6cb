use Rattle.pon_bwmap.proofs.OneMap.{no_fault}
use Rattle.pon_bwmap.proofs.laws.only_memory_is_wanting.Goals as goal

pub returns : goal.returns
returns c = no_fault
