use Rattle.pon_record.proofs.ReadBack.{is_recording, only_memory, same_chapters}
use Rattle.pon_record.proofs.laws.recordings_are_read_back.Goals as goal

pub returns-clause-whole : goal.returns-clause-whole
returns-clause-whole c = is_recording

pub returns-clause-same : goal.returns-clause-same
returns-clause-same c = same_chapters

pub returns-clause-fault : goal.returns-clause-fault
returns-clause-fault c = only_memory
