use Rattle.std.proofs.Common.{length}
use Rattle.pon_guar.proofs.sums.+words_granted.Given as goal

abbrev pub decreases-words_granted : goal.decreases-words_granted
decreases-words_granted l = length l.maps.now
