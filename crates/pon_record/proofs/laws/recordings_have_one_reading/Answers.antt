use Rattle.std.proofs.Common.{[]}
use Rattle.pon_record.proofs.Magic.{one_version}
use Rattle.pon_record.proofs.OneReading.{one_recording}
use Rattle.pon_record.proofs.laws.recordings_have_one_reading.Goals as goal

pub returns-clause-chapters : goal.returns-clause-chapters
returns-clause-chapters c = one_recording

pub returns-clause-version : goal.returns-clause-version
returns-clause-version c v w bytes chapters others h k = one_version v w bytes chapters others [] [] h k
