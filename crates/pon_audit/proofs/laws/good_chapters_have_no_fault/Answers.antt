use Rattle.pon_audit.proofs.OneVerdict.{good_no_fault}
use Rattle.pon_audit.proofs.laws.good_chapters_have_no_fault.Goals as goal

pub returns : goal.returns
returns c = good_no_fault
