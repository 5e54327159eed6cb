use Rattle.pon_laws.proofs.GrowingItems.{own_rises}
use Rattle.pon_laws.proofs.growth.more_never_gives_less.Goals as goal

pub returns : goal.returns
returns c = own_rises
