use Rattle.std.proofs.Common.{◌≡◌, ◌∙◌, ap, map, rules}
use Rattle.pon_run.specs.Ends.{ends_of, with_dropped, without_dropped}
use Rattle.pon_run.proofs.Endings.{both_written, none_dropped, same_but_dropped}
use Rattle.pon_run.proofs.ending.write_lines.Goals as goal

pub returns-clause-lines : goal.returns-clause-lines
returns-clause-lines g c =
    let kept = c.args.ports.items in
    let workers = c.args.workers.now in
    let ends = c.as_slice-2.result.now in
    let counts = c.as_slice-3.result.now in
    let told = c.as_slice-4.result.now in
    let before : ends ≡ ends_of kept workers = search rules in
    let after : told ≡ with_dropped ends counts = search rules in
    both_written kept workers told c.args.settlements.now (g.W.DevWrite.contents c.args.writer.now) (g.W.DevWrite.contents c.write_ends.new.writer) (g.W.DevWrite.contents c.write_settlements.new.writer)
    (ap (map without_dropped) after ∙ same_but_dropped ends counts ∙ ap (map without_dropped) before ∙ none_dropped kept workers) c.in_ok-write_ends.ensures.text c.in_ok-write_settlements.ensures
