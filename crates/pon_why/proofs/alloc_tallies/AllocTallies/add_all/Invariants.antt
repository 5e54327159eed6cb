use Rattle.std.proofs.Common.{◌≡◌, ℕ, drop}
use Rattle.pon_why.specs.Sums.{plus, sums_in}
use Rattle.pon_why.proofs.alloc_tallies.AllocTallies.add_all.Given as goal

-- the sums so far and the tallies to come make the whole sums
abbrev pub invariant-loop-tally : goal.invariant-loop-tally
invariant-loop-tally l = (i : ℕ) → plus (sums_in i l.self.tallies.items) (sums_in i (drop l.tally-index l.others.tallies.items)) ≡ plus (sums_in i l.fn.self.tallies.items) (sums_in i l.others.tallies.items)
