use Rattle.pon_record.specs.Recorders.{Stays}
use Rattle.pon_recorder.proofs.recorder.write_rest.Given as goal

abbrev pub invariant-loop-try : goal.invariant-loop-try
invariant-loop-try g l = Stays (g.W.DevWrite.contents l.fn.file.device) l.fn.file.left (g.W.DevWrite.contents l.file.device) l.file.left
