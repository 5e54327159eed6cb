use Rattle.std.proofs.Common.{◌≡◌, ℕ, drop}
use Rattle.pon_why.specs.Sums.{amounts_in, plus, sums_in}
use Rattle.pon_why.proofs.alloc_tallies.AllocTallies.add_map.Given as goal

-- the sums so far and the rows to come make the whole sums
abbrev pub invariant-loop-index : goal.invariant-loop-index
invariant-loop-index l = (i : ℕ) → plus (sums_in i l.self.tallies.items) (amounts_in i (drop l.index l.rows) (drop l.index l.structures)) ≡ plus (sums_in i l.fn.self.tallies.items) (amounts_in i l.rows l.structures)
