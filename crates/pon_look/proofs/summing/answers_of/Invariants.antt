use Rattle.std.proofs.Common.{◌≡◌, map}
use Rattle.pon_look.proofs.summing.answers_of.Given as goal

-- the answers of the parts so far
abbrev pub invariant-loop-part : goal.invariant-loop-part
invariant-loop-part l = l.answers.items ≡ map (λ p. p.judged) l.yielded
