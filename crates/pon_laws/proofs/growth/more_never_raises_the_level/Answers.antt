use Rattle.pon_laws.proofs.GrowingItems.{level_falls, one_grows}
use Rattle.std.proofs.Common.{◌∷◌, ◌++◌}
use Rattle.pon_laws.proofs.growth.more_never_raises_the_level.Goals as goal

pub returns : goal.returns
returns g before after old new surplus c d pos grows hc hd =
    level_falls (before ++ old ∷ after) (before ++ new ∷ after) surplus c d pos (one_grows before after old new grows) hc hd
