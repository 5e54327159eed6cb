use Rattle.std.proofs.Common.{◌≡◌, ◌∙◌, ◌<◌, ◌≤◌, get_or, length, subst, sym}
use Rattle.pon_why.specs.Sums.{sums_in}
use Rattle.pon_why.proofs.SumLaws.{no_more_tallies, one_more_tally}
use Rattle.pon_why.proofs.alloc_tallies.AllocTallies.add_all.Goals as goal

pub loop-tally-preserved : goal.loop-tally-preserved
loop-tally-preserved c = λ i.
    let k = c.loop-tally.tally-index in
    let tally = c.tally-item.result in
    let tallies = c.args.others.now.tallies.items in
    let shown : c.deref-tally-items.result.now ≡ tallies = c.deref-tally-items.ensures.value in
    let within : k < length tallies = subst (λ l. k < length l) shown c.loop-tally-test.true in
    let here : tally ≡ get_or tallies k tally = subst (λ l. tally ≡ get_or l k tally) shown c.tally-item.is in
    one_more_tally i k tallies tally (sums_in i c.loop-tally.self.tallies.items) (sums_in i c.add.new.self.tallies.items) within here (c.in_ok-hint.ensures i) ∙ c.loop-tally.invariant i

pub returns : goal.returns
returns c = λ i.
    let k = c.loop-tally.tally-index in
    let tallies = c.args.others.now.tallies.items in
    let end : length tallies ≤ k = subst (λ l. length l ≤ k) c.deref-tally-items.ensures.value c.loop-tally-test.false in
    sym (no_more_tallies i k tallies (sums_in i c.loop-tally.self.tallies.items) end) ∙ c.loop-tally.invariant i
