use Rattle.std.proofs.Common.{◌≡◌, drop}
use Rattle.pon_look.specs.Counts.{last_frame, or_else}
use Rattle.pon_look.proofs.frames.last_frame.Given as goal

-- the last frame of all entries is that of those to come, or else the last so far
abbrev pub invariant-loop-entry : goal.invariant-loop-entry
invariant-loop-entry l = last_frame l.entries ≡ or_else (last_frame (drop l.entry-index l.entries)) l.last
