use Rattle.pon_worker.proofs.Passed.{passes_keeps}
use Rattle.pon_worker.proofs.between.restore_port.Goals as goal

pub returns-clause-ring : goal.returns-clause-ring
returns-clause-ring g c = passes_keeps c.args.sink.now c.post_kept.new.sink c.post_kept.ensures.sink
