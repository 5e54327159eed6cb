use Rattle.std.proofs.Common.{◌≡◌}
use Rattle.pon_look.proofs.rates.write_ports.Given as goal

-- no write has failed
abbrev pub invariant-loop-port : goal.invariant-loop-port
invariant-loop-port g l = g.W.DevWrite.failures l.writer ≡ g.W.DevWrite.failures l.fn.writer
