-- The demands of the admitted Alloc-IDs on a map.
use Rattle.std.specs.Prelude.{List, map}
use Rattle.pon_admit.specs.declared.row.Row.{Row}
use Rattle.pon_demand.specs.Input.{Input}
use Rattle.pon_demand.specs.Rates.{guaranteed_rate}
use Rattle.pon_demand.specs.Sharing.{item_of}
use Rattle.pon_demand.specs.declared.demand.Demand.{Demand}

abbrev pub demand_of : Input → Row → Demand
demand_of s r = record {
  onu = r.onu;
  alloc_id = r.alloc_id;
  class = r.descriptor.class;
  guaranteed = guaranteed_rate s r;
  item = item_of s r;
}

-- the demand of each admitted Alloc-ID, in map order
abbrev pub demands_of : Input → List Demand
demands_of s = map (demand_of s) s.roster
