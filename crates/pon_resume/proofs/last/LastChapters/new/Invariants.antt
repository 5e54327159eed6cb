use Rattle.std.proofs.Common.{◌≡◌}
use Rattle.std.specs.Prelude.{None, replicate}
use Rattle.pon_resume.proofs.last.LastChapters.new.Given as goal

-- no chapter of the ports so far
abbrev pub invariant-loop-port : goal.invariant-loop-port
invariant-loop-port l = l.chapters.items ≡ replicate l._port None
