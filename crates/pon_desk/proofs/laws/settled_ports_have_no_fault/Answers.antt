use Rattle.pon_desk.proofs.Settled.{no_fault}
use Rattle.pon_desk.proofs.laws.settled_ports_have_no_fault.Goals as goal

pub returns : goal.returns
returns c = no_fault
