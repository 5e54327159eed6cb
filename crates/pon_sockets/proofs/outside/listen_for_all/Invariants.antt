use Rattle.std.proofs.Common.{◌≡◌}
use Rattle.std.specs.Vec.{vec_len}
use Rattle.pon_sockets.proofs.outside.listen_for_all.Given as goal

-- a listener for each port so far
abbrev pub invariant-loop-port : goal.invariant-loop-port
invariant-loop-port g l = vec_len l.all ≡ l.port
