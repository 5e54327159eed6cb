use Rattle.std.proofs.Common.{subst}
use Rattle.pon_history.specs.WordRuns.{RunsAreWhole}
use Rattle.pon_history.proofs.WordRuns.{whole_runs}
use Rattle.pon_history.proofs.chapter.Chapter.entries.Goals as goal

pub returns-clause-runs : goal.returns-clause-runs
returns-clause-runs c = subst RunsAreWhole c.self.view_is (whole_runs _ c.self.invariant.0)
