use Rattle.std.proofs.Common.{◌≡◌, ◌∙◌, ap, length, map, rules, sym}
use Rattle.std.specs.Prelude.{Ok}
use Rattle.pon_run.proofs.Endings.{tells_worked}
use Rattle.pon_run.proofs.ending.tell.Goals as goal

pub returns-in-Some-clause-done : goal.returns-in-Some-clause-done
returns-in-Some-clause-done g c =
    let kept = c.in-Some.closed.ports.items in
    let workers = c.as_slice-in-Some.result.now in
    let same : workers ≡ c.in_ok-workers.workers.items = search rules in
    let at_desk = rw c.in-Some.is at c.in_ok-closed.ensures.ports in
    let count : length kept ≡ c.args.desk.ports = search (rules, at_desk) in
    let ended : map (λ w. w.end) c.as_slice.result.now ≡ map Ok workers = c.in_ok-workers.ensures ∙ ap (map Ok) (sym same) in
    let shown : map (λ w. w.end) c.args.results.worked.items ≡ map (λ w. w.end) c.as_slice.result.now = search rules in
    tells_worked c.tell_closed.result (map (λ w. w.end) c.args.results.worked.items) kept workers c.args.desk.ports c.args.run.now.args.settle (g.W.DevWrite.contents c.args.writer.now) (g.W.DevWrite.contents c.tell_closed.new.writer)
    count (shown ∙ ended) c.tell_closed.ensures.done
