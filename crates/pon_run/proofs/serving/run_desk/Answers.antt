use Rattle.std.proofs.Common.{rules}
use Rattle.std.specs.Prelude.{IsNone}
use Rattle.pon_run.proofs.Endings.{ends_done}
use Rattle.pon_run.proofs.serving.run_desk.Goals as goal

pub returns : goal.returns
returns g c =
    ends_done c.tell_results.result _ c.args.desk.ports c.args.run.now.args.settle (IsNone c.args.operators.lines)
    (g.W.DevWrite.contents c.args.writer.now) (g.W.DevWrite.contents c.serve.new.writer) (g.W.DevWrite.contents c.tell_results.new.writer)
    (search rules) c.tell_results.ensures.done
