use Rattle.std.proofs.Common.{length}
use Rattle.pon_guar.proofs.sums.+words_scanned.Given as goal

abbrev pub decreases-words_scanned : goal.decreases-words_scanned
decreases-words_scanned l = length l.maps.now
