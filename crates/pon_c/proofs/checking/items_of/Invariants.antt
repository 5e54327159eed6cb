use Rattle.std.proofs.Common.{◌≡◌, take}
use Rattle.pon_c.specs.Checking.{items_of}
use Rattle.pon_c.proofs.checking.items_of.Given as goal

abbrev pub invariant-loop-item : goal.invariant-loop-item
invariant-loop-item l = l.copy.items ≡ items_of (take l.item-index l.items)
