use Rattle.pon_desk.proofs.OneFault.{one_fault}
use Rattle.pon_desk.proofs.laws.unsettled_ports_have_one_fault.Goals as goal

pub returns : goal.returns
returns c = one_fault
