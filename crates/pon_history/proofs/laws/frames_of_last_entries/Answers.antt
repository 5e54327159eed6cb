use Rattle.pon_history.proofs.Reports.{at_the_last}
use Rattle.pon_history.proofs.laws.frames_of_last_entries.Goals as goal

pub returns : goal.returns
returns c = at_the_last
