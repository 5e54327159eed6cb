use Rattle.std.proofs.Common.{◌≡◌, take}
use Rattle.pon_sockets.proofs.units.first_queues.Given as goal

abbrev pub invariant-loop-queue : goal.invariant-loop-queue
invariant-loop-queue l = l.queues.items ≡ take l.queue-index l.own
