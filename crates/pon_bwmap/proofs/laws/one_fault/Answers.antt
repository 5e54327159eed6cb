use Rattle.pon_bwmap.proofs.OneFault.{one_fault}
use Rattle.pon_bwmap.proofs.laws.one_fault.Goals as goal

pub returns : goal.returns
returns c = one_fault
