use Rattle.pon_audit.proofs.auditing.Auditing.next.Goals as goal

pub judge-requires-clause-read : goal.judge-requires-clause-read
judge-requires-clause-read g c = λ κs lives.
    let before = c.requires in
    (before.0, g.R.DevRead.remaining c.read.new.reader, c.in_ok-batch.ensures.batch before.0 before.1)
