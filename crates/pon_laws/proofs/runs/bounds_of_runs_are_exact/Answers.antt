use Rattle.pon_laws.proofs.ShortRun.{chapter, descriptor, short}
use Rattle.pon_laws.proofs.runs.bounds_of_runs_are_exact.Goals as goal

pub returns : goal.returns
returns c = (chapter, 1, 1024, descriptor, short)
