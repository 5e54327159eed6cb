use Rattle.std.proofs.Common.{length}
use Rattle.pon_record.specs.Recordings.{Holds}
use Rattle.pon_record.proofs.recording.read_chapters.Given as goal

abbrev pub invariant-loop-rest : goal.invariant-loop-rest
invariant-loop-rest l = record {
  holds : Holds l.version l.bytes l.whole l.rest;
}

abbrev pub decreases-loop-rest : goal.decreases-loop-rest
decreases-loop-rest l = length l.rest
