use Rattle.std.proofs.Common.{◌≡◌}
use Rattle.pon_desk.specs.Walks.{chapters_left, left_of}
use Rattle.pon_desk.proofs.walk.Walk.entry.Given as goal

-- no entry is passed
abbrev pub invariant-loop-self : goal.invariant-loop-self
invariant-loop-self l = left_of l.self ≡ left_of l.fn.self

abbrev pub decreases-loop-self : goal.decreases-loop-self
decreases-loop-self l = chapters_left l.self
