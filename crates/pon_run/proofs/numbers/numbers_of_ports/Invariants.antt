use Rattle.std.proofs.Common.{◌≡◌}
use Rattle.std.specs.Vec.{vec_len}
use Rattle.pon_run.proofs.numbers.numbers_of_ports.Given as goal

-- the numbers of each port so far
abbrev pub invariant-loop-port : goal.invariant-loop-port
invariant-loop-port g l = vec_len l.all ≡ l.port
