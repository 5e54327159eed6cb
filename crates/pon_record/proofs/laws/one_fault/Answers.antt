use Rattle.pon_record.proofs.OneReading.{one_fault}
use Rattle.pon_record.proofs.laws.one_fault.Goals as goal

pub returns : goal.returns
returns c = one_fault
