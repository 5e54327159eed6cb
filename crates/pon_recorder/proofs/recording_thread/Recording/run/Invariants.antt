use Rattle.pon_recorder.specs.Whole.{StaysWhole}
use Rattle.pon_recorder.proofs.recording_thread.Recording.run.Given as goal

abbrev pub invariant-loop : goal.invariant-loop
invariant-loop g l = StaysWhole l.initial.self.recorder l.initial.self.whole l.self.recorder l.self.whole
