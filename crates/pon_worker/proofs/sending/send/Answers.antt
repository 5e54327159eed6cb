use Rattle.std.proofs.Common.{List, ℕ, ap, length, arith}
use Rattle.pon_worker.specs.Turns.{map_record}
use Rattle.pon_worker.proofs.Tries.{all_sent, fails_in_row, sent_again, tried_again, tried_none, tries_smaller}
use Rattle.pon_worker.proofs.sending.send.Goals as goal

pub tries-init : goal.tries-init
tries-init g c =
    let put = rw c.unwrap.ensures at c.put.ensures.ok in record {
      tried = tried_none (g.W.DevWrite.contents c.args.writer.now) (map_record c.args.made.now) c.put.new.self (g.W.DevWrite.failures c.args.writer.now) put.1;
      left_is = ap (λ (t : List ℕ). length t) c.left-left.ensures;
    }

pub returns-in-Ok-clause-sent : goal.returns-in-Ok-clause-sent
returns-in-Ok-clause-sent g c =
    let far = c.tries.invariant.tried.sends in
    let more = c.in-Ok.ensures.sent in
    let before = g.W.DevWrite.contents c.args.writer.now in
    let now = g.W.DevWrite.contents c.push.new.writer in
    let all = map_record c.args.made.now in
    all_sent before now all c.push.new.self (sent_again before (g.W.DevWrite.contents c.tries.writer) now all c.tries.down c.push.new.self more.0 far more.1 more.2) c.in-Ok.ensures.ok

pub tries-preserved : goal.tries-preserved
tries-preserved g c =
    let far = c.tries.invariant in
    let more = c.in-Err.ensures.sent in
    let now = ap (λ (t : List ℕ). length t) c.left-now.ensures in record {
      tried = tried_again (g.W.DevWrite.contents c.args.writer.now) (g.W.DevWrite.contents c.tries.writer) (g.W.DevWrite.contents c.push.new.writer) (map_record c.args.made.now) c.tries.down c.push.new.self more.0 c.tries.failed c.failed_in_row-failed.result
          (g.W.DevWrite.failures c.args.writer.now) (g.W.DevWrite.failures c.tries.writer) (g.W.DevWrite.failures c.push.new.writer) far.tried c.tries-test.true more.1 more.2 c.in-Err.ensures.failures
          (λ less. c.failed_in_row-failed.ensures.first (omega (arith, less, far.left_is, now))) (λ same. c.failed_in_row-failed.ensures.again (omega (arith, same, far.left_is, now)));
      left_is = now;
    }

pub tries-smaller : goal.tries-smaller
tries-smaller g c =
    let far = c.tries.invariant in
    let more = c.in-Err.ensures.sent in
    let now = ap (λ (t : List ℕ). length t) c.left-now.ensures in
    tries_smaller c.tries.down c.push.new.self more.0 c.tries.failed c.failed_in_row-failed.result c.tries-test.true more.2
    (λ less. c.failed_in_row-failed.ensures.first (omega (arith, less, far.left_is, now))) (λ same. c.failed_in_row-failed.ensures.again (omega (arith, same, far.left_is, now)))

pub returns-clause-begun : goal.returns-clause-begun
returns-clause-begun g c =
    let far = c.tries.invariant.tried in
    (far.sends.sent, far.sends.appends, (c.tries.down, far.sends.together), fails_in_row (g.W.DevWrite.contents c.args.writer.now) (g.W.DevWrite.contents c.tries.writer) (map_record c.args.made.now) c.tries.down c.tries.failed (g.W.DevWrite.failures c.args.writer.now) (g.W.DevWrite.failures c.tries.writer) far c.tries-test.false)
