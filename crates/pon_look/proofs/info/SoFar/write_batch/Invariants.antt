use Rattle.std.proofs.Common.{◌≡◌}
use Rattle.pon_look.proofs.info.SoFar.write_batch.Given as goal

-- no write has failed
abbrev pub invariant-loop-place : goal.invariant-loop-place
invariant-loop-place g l = g.W.DevWrite.failures l.writer ≡ g.W.DevWrite.failures l.fn.writer
