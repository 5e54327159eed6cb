use Rattle.std.proofs.Common.{◌≡◌, drop}
use Rattle.pon_look.specs.Counts.{first_frame}
use Rattle.pon_look.proofs.frames.first_frame.Given as goal

-- no map is in the entries so far
abbrev pub invariant-loop-entry : goal.invariant-loop-entry
invariant-loop-entry l = first_frame l.entries ≡ first_frame (drop l.entry-index l.entries)
