use Rattle.pon_record.proofs.EachRead.{each_read}
use Rattle.pon_record.proofs.laws.bytes_are_read_or_have_a_fault.Goals as goal

pub returns : goal.returns
returns c = each_read
