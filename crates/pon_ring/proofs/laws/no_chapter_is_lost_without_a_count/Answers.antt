use Rattle.pon_ring.proofs.Counted.{kept_or_counted}
use Rattle.pon_ring.proofs.laws.no_chapter_is_lost_without_a_count.Goals as goal

pub returns : goal.returns
returns c = λ old new chapters passed small. kept_or_counted chapters old new passed small
