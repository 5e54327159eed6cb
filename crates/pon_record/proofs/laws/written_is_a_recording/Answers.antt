use Rattle.pon_record.proofs.OneReading.{written_is_read}
use Rattle.pon_record.proofs.laws.written_is_a_recording.Goals as goal

pub returns : goal.returns
returns c = written_is_read
