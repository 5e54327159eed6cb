use Rattle.std.proofs.Common.{length}
use Rattle.pon_guar.proofs.sums.+search_sum.Given as goal

abbrev pub decreases-search_sum : goal.decreases-search_sum
decreases-search_sum l = length l.maps.now
