use Rattle.pon_link.proofs.UnitSteps.{HasAnswered}
use Rattle.pon_link.proofs.unit.answer_all.Given as goal

abbrev pub invariant-loop-row : goal.invariant-loop-row
invariant-loop-row l = HasAnswered l.fn.queues l.rows l.row-index l.queues l.occ
