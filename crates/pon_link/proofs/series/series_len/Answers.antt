use Rattle.std.proofs.Common.{arith}
use Rattle.pon_link.proofs.Splits.{is_series, at_most_16, keeps_later, one_more, stops_at_end, seen}
use Rattle.pon_link.proofs.series.series_len.Goals as goal

pub loop-len-preserved : goal.loop-len-preserved
loop-len-preserved c =
    let far = c.loop-len.invariant in record {
      some = omega arith;
      within = omega arith;
      goes_on = one_more c.args.rows.now c.loop-len.len far.goes_on (seen c.args.rows.now c.loop-len.len c.index-rows-len.result c.start.result c.is_none.result _ c.loop-len-test.true c.index-rows-len.is c.start.ensures c.is_none.ensures c.if-is_none.true);
    }

pub returns-else-is_none-clause-limit : goal.returns-else-is_none-clause-limit
returns-else-is_none-clause-limit c = at_most_16 c.args.rows.now c.loop-len.len c.requires.series c.loop-len.invariant.goes_on

pub returns-else-is_none-clause-series : goal.returns-else-is_none-clause-series
returns-else-is_none-clause-series c = is_series c.args.rows.now c.loop-len.len c.loop-len.invariant.some c.loop-len.invariant.within c.requires.series c.loop-len.invariant.goes_on

pub returns-else-is_none-clause-later : goal.returns-else-is_none-clause-later
returns-else-is_none-clause-later c = keeps_later c.args.rows.now c.loop-len.len c.requires.series (seen c.args.rows.now c.loop-len.len c.index-rows-len.result c.start.result c.is_none.result _ c.loop-len-test.true c.index-rows-len.is c.start.ensures c.is_none.ensures c.if-is_none.false)

pub returns-after-loop-len-clause-limit : goal.returns-after-loop-len-clause-limit
returns-after-loop-len-clause-limit c = at_most_16 c.args.rows.now c.loop-len.len c.requires.series c.loop-len.invariant.goes_on

pub returns-after-loop-len-clause-series : goal.returns-after-loop-len-clause-series
returns-after-loop-len-clause-series c = is_series c.args.rows.now c.loop-len.len c.loop-len.invariant.some c.loop-len.invariant.within c.requires.series c.loop-len.invariant.goes_on

pub returns-after-loop-len-clause-later : goal.returns-after-loop-len-clause-later
returns-after-loop-len-clause-later c = keeps_later c.args.rows.now c.loop-len.len c.requires.series (stops_at_end c.args.rows.now c.loop-len.len c.loop-len-test.false)
