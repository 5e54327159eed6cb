use Rattle.std.proofs.Common.{◌≡◌, List, subst, sym}
use Rattle.pon_sold.specs.Watches.{nothing, watch_in}
use Rattle.pon_sold.specs.declared.watch.Watch.{Watch}
use Rattle.pon_sold.specs.declared.watches.TheConstants.{PLACES}
use Rattle.pon_sold.proofs.Places.{all_nothing}
use Rattle.pon_sold.proofs.watches.Watches.new.Goals as goal

pub returns : goal.returns
returns c = λ i. subst (λ (ws : List Watch). watch_in ws i ≡ nothing) (sym (c.in_ok-vec.ensures.items_if_clones_equal (λ y same. same))) (all_nothing PLACES i)
