use Rattle.pon_history.proofs.WordRuns.{whole_runs}
use Rattle.pon_history.proofs.laws.words_over_runs_are_whole_parts.Goals as goal

pub returns : goal.returns
returns c = whole_runs
