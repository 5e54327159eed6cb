use Rattle.std.proofs.Common.{◌≡◌, ◌≤◌, length, map, take, vec_capacity, vec_len}
use Rattle.pon_demand.specs.Demands.{demand_of}
use Rattle.pon_demand.proofs.demand.demands_of.Given as goal

-- the demands of the rows so far, and room for all
abbrev pub invariant-loop-row : goal.invariant-loop-row
invariant-loop-row l = record {
  demands : l.found.items ≡ map (demand_of l.input) (take l.row-index l.row-items);
  room : length l.row-items ≤ vec_capacity l.found;
  count : vec_len l.found ≡ l.row-index;
}
