use Rattle.std.proofs.Common.{◌≡◌, length}
use Rattle.pon_sold.specs.Watches.{stopped, watch_in}
use Rattle.pon_sold.specs.declared.watches.TheConstants.{PLACES}
use Rattle.pon_sold.proofs.Places.{AreSet}
use Rattle.pon_sold.proofs.watches.Watches.stop.Given as goal

-- the runs of those before the place are stopped
abbrev pub invariant-loop-place : goal.invariant-loop-place
invariant-loop-place l = record {
  each_place : length l.self.watches.items ≡ PLACES;
  set : AreSet (λ i. stopped (watch_in l.fn.self.watches.items i)) (watch_in l.fn.self.watches.items) l.self.watches.items l.place;
}
