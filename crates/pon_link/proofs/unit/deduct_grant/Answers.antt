use Rattle.std.proofs.Common.{arith, get_or, ap}
use Rattle.std.proofs.lemmas.List.Edits.{map_over_more}
use Rattle.pon_link.specs.Units.{queue_after}
use Rattle.pon_link.proofs.unit.deduct_grant.Goals as goal

pub loop-queue-preserved : goal.loop-queue-preserved
loop-queue-preserved c =
    rw c.queue_after.ensures (map_over_more (queue_after c.args.row.now) c.args.queues.now c.loop-queue.queues c.loop-queue.queue-index (get_or c.loop-queue.queues c.loop-queue.queue-index c.queue-item.result) (omega arith) c.loop-queue.invariant (ap (λ d. get_or c.loop-queue.queues c.loop-queue.queue-index d) c.queue-item.is))
