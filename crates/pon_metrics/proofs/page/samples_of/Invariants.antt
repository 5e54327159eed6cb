use Rattle.std.proofs.Common.{◌≡◌, ◌++◌}
use Rattle.std.specs.Prelude.{drop, string_bytes}
use Rattle.pon_metrics.specs.Page.{samples_from}
use Rattle.pon_metrics.proofs.page.samples_of.Given as goal

-- the lines so far, and those of the further ports
abbrev pub invariant-loop-port : goal.invariant-loop-port
invariant-loop-port l = string_bytes l.text ++ samples_from l.metric l.port (drop l.port l.ports) ≡ samples_from l.metric 0 l.ports
