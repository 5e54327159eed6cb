use Rattle.std.proofs.Common.{length}
use Rattle.pon_record.proofs.MovedChapters.{AreMoved}
use Rattle.pon_record.proofs.migration.migrate_chapters.Given as goal

abbrev pub invariant-loop-rest : goal.invariant-loop-rest
invariant-loop-rest l = AreMoved l.bytes l.rest l.out.items

abbrev pub decreases-loop-rest : goal.decreases-loop-rest
decreases-loop-rest l = length l.rest
