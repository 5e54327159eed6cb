use Rattle.pon_audit.proofs.auditing.Auditing.next_in_order.Goals as goal

pub place-requires-clause-read : goal.place-requires-clause-read
place-requires-clause-read g c =
    let before = c.requires in
    (before.0, g.R.DevRead.remaining c.read.new.reader, c.in_ok-batch.ensures.batch before.0 before.1)

pub returns-clause-judged : goal.returns-clause-judged
returns-clause-judged g c = λ start auditing. c.in_ok-verdict.ensures.judged start (g.R.DevRead.remaining c.read.new.reader) (c.in_ok-batch.ensures.batch start auditing)
