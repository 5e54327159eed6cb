use Rattle.std.proofs.Common.{◌≡◌, ◌≤◌, length, map, take, vec_capacity, vec_len}
use Rattle.std.specs.Prelude.{All}
use Rattle.pon_demand.specs.Shares.{AreSharesAt}
use Rattle.pon_state.specs.State.{input_of}
use Rattle.pon_why.specs.Rates.{IsWithinLine, row_rates}
use Rattle.pon_why.proofs.rates.rates_under.Given as goal

-- the rates of the rows so far, the shares of those to come, and there is room for all
abbrev pub invariant-loop-demand : goal.invariant-loop-demand
invariant-loop-demand l = record {
  shares : AreSharesAt (input_of l.state) l.cert l.demand-index l.shares;
  rows : l.found.items ≡ map (row_rates l.state l.cert) (take l.demand-index l.state.roster);
  within : All IsWithinLine l.found.items;
  count : vec_len l.found ≡ l.demand-index;
  room : length l.demands ≤ vec_capacity l.found;
}
