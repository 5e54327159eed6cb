use Rattle.pon_record.proofs.OneReading.{no_bad_format, no_truncated}
use Rattle.pon_record.proofs.laws.recordings_have_no_fault.Goals as goal

pub returns-clause-truncated : goal.returns-clause-truncated
returns-clause-truncated c versions bytes chapters whole at = no_truncated versions bytes chapters at whole

pub returns-clause-bad_format : goal.returns-clause-bad_format
returns-clause-bad_format c = no_bad_format
