use Rattle.std.proofs.Common.{◌++◌, subst}
use Rattle.pon_audit.specs.Streams.{AreAudited}
use Rattle.pon_audit.proofs.AfterBatch.{ended_with}
use Rattle.pon_audit.proofs.progress.Audit.take_answered_batch.Goals as goal

pub returns : goal.returns
returns c = λ earlier audited.
    let more : AreAudited (earlier ++ c.args.batch.now.chapters.items) c.take_answers.new.self = subst (λ l. AreAudited (earlier ++ l) c.take_answers.new.self) c.deref.ensures.value (c.in_ok-take_answers.ensures earlier audited) in
    ended_with earlier c.args.batch.now c.take_answers.new.self c.verdict_at.result more c.verdict_at.ensures
