use Rattle.std.proofs.Common.{ap, arith}
use Rattle.pon_desk.specs.Counts.{DeskSize}
use Rattle.pon_desk.proofs.desk.Desk.close.Goals as goal

pub compare_counts-requires-clause-ports : goal.compare_counts-requires-clause-ports
compare_counts-requires-clause-ports g c = c.self.invariant.0

pub compare_counts-requires-clause-seats : goal.compare_counts-requires-clause-seats
compare_counts-requires-clause-seats g c = omega (arith, c.self.invariant.1, c.if-len-self.false, c.len.ensures)

pub compare_counts-requires-clause-room : goal.compare_counts-requires-clause-room
compare_counts-requires-clause-room g c = (c.self.invariant.2, c.self.invariant.3)

pub compare_counts-requires-clause-zero : goal.compare_counts-requires-clause-zero
compare_counts-requires-clause-zero g c = c.self.invariant.4

pub returns-in-Ok-clause-opened : goal.returns-in-Ok-clause-opened
returns-in-Ok-clause-opened g c = ap (λ (s : DeskSize). s.opened) c.self.view_is

pub returns-in-Ok-clause-even : goal.returns-in-Ok-clause-even
returns-in-Ok-clause-even g c = c.in-Ok.ensures.even.1
