use Rattle.pon_hec.proofs.Unique.{one_reading}
use Rattle.pon_hec.proofs.laws.one_reading.Goals as goal

pub returns : goal.returns
returns c = one_reading
