use Rattle.pon_bwmap.proofs.ReadsBack.{reads_back}
use Rattle.pon_bwmap.proofs.laws.reads_back.Goals as goal

pub returns : goal.returns
returns c = reads_back
