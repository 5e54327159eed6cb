use Rattle.std.proofs.Common.{◌≡◌, map, ◌++◌, take, drop}
use Rattle.pon_link.specs.Units.{queue_after}
use Rattle.pon_link.proofs.unit.deduct_grant.Given as goal

abbrev pub invariant-loop-queue : goal.invariant-loop-queue
invariant-loop-queue l = l.queues ≡ map (queue_after l.row) (take l.queue-index l.initial.queues) ++ drop l.queue-index l.initial.queues
