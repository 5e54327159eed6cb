use Rattle.std.specs.Prelude.{Some}
use Rattle.pon_c.specs.Resuming.{TellsLast}
use Rattle.pon_c.proofs.LastChapters.{last_good}
use Rattle.pon_c.proofs.resuming.resume_last.Goals as goal

pub resume_good-requires-clause-good : goal.resume_good-requires-clause-good
resume_good-requires-clause-good c =
    let told : TellsLast c.args.bytes.now c.args.port (Some c.in-Ok-Some.chapter) = rw c.in-Ok-Some.field-0-is at c.in-Ok-Some.ensures in
    last_good c.args.bytes.now c.args.port c.in-Ok-Some.chapter told.0
