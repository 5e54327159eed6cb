use Rattle.std.proofs.Common.{◌≡◌}
use Rattle.pon_look.proofs.why.write_rows.Given as goal

-- no write has failed
abbrev pub invariant-loop-index : goal.invariant-loop-index
invariant-loop-index g l = g.W.DevWrite.failures l.writer ≡ g.W.DevWrite.failures l.fn.writer
