use Rattle.pon_record_tests.proofs.EachVerdict.{each_verdict}
use Rattle.pon_record_tests.proofs.laws.each_list_of_bytes_has_a_verdict.Goals as goal

pub returns : goal.returns
returns c = each_verdict
