use Rattle.std.proofs.Common.{◌++◌, subst}
use Rattle.pon_audit.specs.Streams.{AreAudited}
use Rattle.pon_audit.proofs.AfterBatch.{ended_with}
use Rattle.pon_audit.proofs.progress.Audit.take_batch.Goals as goal

pub returns : goal.returns
returns g c = λ earlier audited.
    let more : AreAudited (earlier ++ c.args.batch.now.chapters.items) c.take.new.self = subst (λ l. AreAudited (earlier ++ l) c.take.new.self) c.deref.ensures.value (c.in_ok-take.ensures earlier audited) in
    ended_with earlier c.args.batch.now c.take.new.self c.verdict_at.result more c.verdict_at.ensures
