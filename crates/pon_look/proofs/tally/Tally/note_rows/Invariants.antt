use Rattle.std.proofs.Common.{◌≡◌}
use Rattle.pon_look.proofs.tally.Tally.note_rows.Given as goal

-- the tallies and what was sold stay
abbrev pub invariant-loop-row : goal.invariant-loop-row
invariant-loop-row l = record {
  sums : l.self.allocs ≡ l.fn.self.allocs;
  sold : l.self.watches ≡ l.fn.self.watches;
}
