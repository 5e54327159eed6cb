use Rattle.std.proofs.Common.{◌≡◌, ◌≤◌, length, map, take, vec_capacity, vec_len}
use Rattle.pon_admit.specs.Roster.{left_over}
use Rattle.pon_demand.specs.Shares.{AreSharesAt}
use Rattle.pon_demand.specs.Sharing.{surplus_rate}
use Rattle.pon_demand.proofs.Planning.{owed_to}
use Rattle.pon_demand.proofs.RosterMaps.{granted_to_row}
use Rattle.pon_demand.specs.Carries.{number_of}
use Rattle.pon_demand.proofs.grants.planned_grants.Given as goal

abbrev pub invariant-loop-demand : goal.invariant-loop-demand
invariant-loop-demand l = record {
  shares : AreSharesAt l.input l.cert l.demand-index l.shares;
  granted : l.grants.items ≡ map (granted_to_row l.input (surplus_rate l.input l.cert) (λ q. number_of l.input.roster l.former q.alloc_id)) (take l.demand-index l.input.roster);
  left : l.carries.items ≡ map (λ r. left_over l.input.rule (owed_to l.input l.cert l.former r)) (take l.demand-index l.input.roster);
  count : vec_len l.grants ≡ l.demand-index;
  room : length l.demands ≤ vec_capacity l.grants;
  count_carries : vec_len l.carries ≡ l.demand-index;
  room_carries : length l.demands ≤ vec_capacity l.carries;
}
