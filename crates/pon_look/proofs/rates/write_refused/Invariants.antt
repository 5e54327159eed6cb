use Rattle.std.proofs.Common.{◌≡◌}
use Rattle.pon_look.proofs.rates.write_refused.Given as goal

-- no write has failed
abbrev pub invariant-loop-chapter : goal.invariant-loop-chapter
invariant-loop-chapter g l = g.W.DevWrite.failures l.writer ≡ g.W.DevWrite.failures l.fn.writer
