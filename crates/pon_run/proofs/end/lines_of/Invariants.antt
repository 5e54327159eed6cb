use Rattle.std.proofs.Common.{◌≡◌, ◌++◌}
use Rattle.std.specs.Prelude.{drop, string_bytes}
use Rattle.pon_run.specs.Ends.{lines_from}
use Rattle.pon_run.proofs.end.lines_of.Given as goal

abbrev pub invariant-loop-port : goal.invariant-loop-port
invariant-loop-port l = string_bytes l.text ++ lines_from l.port (drop l.port l.ends) ≡ lines_from 0 l.ends
