use Rattle.std.proofs.Common.{◌≡◌}
use Rattle.pon_look.proofs.contents.write_gaps.Given as goal

-- no write has failed
abbrev pub invariant-loop-gap : goal.invariant-loop-gap
invariant-loop-gap g l = g.W.DevWrite.failures l.writer ≡ g.W.DevWrite.failures l.fn.writer
