use Rattle.std.proofs.Common.{refl}
use Rattle.pon_audit.specs.Streams.{EndsAudit}
use Rattle.pon_audit.proofs.AfterBatch.{goes_on}
use Rattle.pon_audit.proofs.auditing.Auditing.place.Goals as goal

pub take_answered_batch-requires-clause-audited : goal.take_answered_batch-requires-clause-audited
take_answered_batch-requires-clause-audited c = let read = c.requires.read in (read.2.whole, read.2.audited)

pub returns-clause-judged : goal.returns-clause-judged
returns-clause-judged c = λ start left read.
    let told : EndsAudit read.whole c.args.batch.now c.take_answered_batch.new.self c.in_ok-take_answered_batch.field-0 = rw c.in_ok-take_answered_batch.was at c.take_answered_batch.ensures read.whole read.audited in
    goes_on start left c.args.self.now _ c.args.batch.now read refl c.in_ok-take_answered_batch.field-0 told
