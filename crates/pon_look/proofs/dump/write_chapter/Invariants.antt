use Rattle.std.proofs.Common.{◌≡◌}
use Rattle.pon_look.proofs.dump.write_chapter.Given as goal

-- no write has failed
abbrev pub invariant-loop-entry : goal.invariant-loop-entry
invariant-loop-entry g l = g.W.DevWrite.failures l.writer ≡ g.W.DevWrite.failures l.fn.writer
