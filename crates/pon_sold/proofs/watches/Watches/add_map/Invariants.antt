use Rattle.std.proofs.Common.{◌≡◌, ℕ, length}
use Rattle.pon_sold.specs.Watches.{after_rows, watch_in}
use Rattle.pon_sold.specs.declared.watches.TheConstants.{PLACES}
use Rattle.pon_sold.proofs.Places.{after_from}
use Rattle.pon_sold.proofs.watches.Watches.add_map.Given as goal

-- the rows from the index on make of what is known so far what all of them make of what was known before
abbrev pub invariant-loop-index : goal.invariant-loop-index
invariant-loop-index l = record {
  each_place : length l.self.watches.items ≡ PLACES;
  rows : (i : ℕ) → after_from i l.index l.rows l.rates l.structures (watch_in l.self.watches.items i) ≡ after_rows i l.rows l.rates l.structures (watch_in l.fn.self.watches.items i);
}
