use Rattle.pon_recorder.specs.Whole.{StaysSound}
use Rattle.pon_recorder.proofs.rounds.take_round.Given as goal

abbrev pub invariant-loop-inlet : goal.invariant-loop-inlet
invariant-loop-inlet g l = StaysSound l.initial.recorder l.recorder
