use Rattle.std.proofs.Common.{get_or, bit_and, arith, rules}
use Rattle.std.proofs.lemmas.List.Sorted.{IsNonDecreasingBy-from_sort_by_key}
use Rattle.pon_fill.proofs.OrderLaws.{in_order}
use Rattle.pon_fill.proofs.order.order.Goals as goal

pub returns : goal.returns
returns c =
    in_order c.args.items.now c.loop-i.keys c.loop-i.numbers c.sort_unstable_by_key.new.self c.requires.each c.requires.count (omega arith) c.sort_unstable_by_key.ensures.len
    (λ k lt. c.loop-i.invariant.numbers k (omega arith)) (λ k d lt. c.loop-i.invariant.keys k d (omega arith)) c.sort_unstable_by_key.ensures.permutation
    (IsNonDecreasingBy-from_sort_by_key (λ i. get_or c.loop-i.keys (bit_and i 511) 0) _ c.sort_unstable_by_key.ensures.sorted (λ a r q k. search rules))
