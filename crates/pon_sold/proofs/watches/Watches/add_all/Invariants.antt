use Rattle.std.proofs.Common.{◌≡◌, length}
use Rattle.pon_sold.specs.Watches.{joined, watch_in}
use Rattle.pon_sold.specs.declared.watches.TheConstants.{PLACES}
use Rattle.pon_sold.proofs.Places.{AreSet}
use Rattle.pon_sold.proofs.watches.Watches.add_all.Given as goal

-- those before the place have the later maps too
abbrev pub invariant-loop-place : goal.invariant-loop-place
invariant-loop-place l = record {
  each_place : length l.self.watches.items ≡ PLACES;
  set : AreSet (λ i. joined (watch_in l.fn.self.watches.items i) (watch_in l.later.watches.items i)) (watch_in l.fn.self.watches.items) l.self.watches.items l.place;
}
