use Rattle.pon_audit.proofs.OneVerdict.{one_first}
use Rattle.pon_audit.proofs.laws.one_first_fault.Goals as goal

pub returns : goal.returns
returns c = λ cs p m i w q n j v f g. let same = one_first cs p q m n i j w v f g in (same.port, same.number, same.index, same.why)
