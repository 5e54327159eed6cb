use Rattle.std.proofs.Common.{◌≡◌, length}
use Rattle.pon_link.specs.Outputs.{HasAnswered}
use Rattle.pon_link.specs.Series.{KeepsSeries}
use Rattle.pon_link.proofs.writing.write_answers.Given as goal

-- the series before the rest are answered
abbrev pub invariant-loop-rest : goal.invariant-loop-rest
invariant-loop-rest g l = record {
  keeps : KeepsSeries l.rest;
  answered : HasAnswered l.frame l.rows l.rest l.initial.units l.units (g.W.DevWrite.contents l.initial.writer) (g.W.DevWrite.contents l.writer);
  failures : g.W.DevWrite.failures l.writer ≡ g.W.DevWrite.failures l.initial.writer;
}

abbrev pub decreases-loop-rest : goal.decreases-loop-rest
decreases-loop-rest g l = length l.rest
