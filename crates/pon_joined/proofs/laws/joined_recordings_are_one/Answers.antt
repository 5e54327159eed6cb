use Rattle.pon_joined.proofs.OneRecording.{one_recording}
use Rattle.pon_joined.proofs.laws.joined_recordings_are_one.Goals as goal

pub returns : goal.returns
returns c = one_recording
