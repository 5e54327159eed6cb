use Rattle.std.proofs.Common.{◌∙◌, ◌<◌, arith, length, sym}
use Rattle.pon_why.specs.Sums.{sums_in}
use Rattle.pon_why.proofs.SumLaws.{no_more_rows, one_more_row}
use Rattle.pon_why.proofs.alloc_tallies.AllocTallies.add_map.Goals as goal

pub loop-index-preserved : goal.loop-index-preserved
loop-index-preserved c = λ i.
    let k = c.loop-index.index in
    let before = sums_in i c.loop-index.self.tallies.items in
    let after = sums_in i c.add_row.new.self.tallies.items in
    let within : k < length c.args.structures.now = omega (arith, c.loop-index-test.true, c.requires) in
    one_more_row i k c.args.rows.now c.args.structures.now c.index-rows-index.result c.index-structures-index.result before after c.loop-index-test.true within c.index-rows-index.is c.index-structures-index.is (c.in_ok-hint.ensures i) ∙ c.loop-index.invariant i

pub returns : goal.returns
returns c = λ i.
    sym (no_more_rows i c.loop-index.index c.args.rows.now c.args.structures.now (sums_in i c.loop-index.self.tallies.items) c.loop-index-test.false) ∙ c.loop-index.invariant i
