-- The numbers that the metrics of a run show of a port.
use Rattle.std.specs.Prelude.{ℕ, ◌*◌, ◌-◌, length, Bool, true, false, Option, Some, None, option_map}
use Rattle.pon_units.specs.declared.limits.TheConstants.{WORD_RATE}
use Rattle.pon_admit.specs.Roster.{capacity, onus_of, promised_sum}
use Rattle.pon_state.specs.State.{State}
use Rattle.pon_history.specs.Chapters.{Chapter, present_state}
use Rattle.pon_metrics.specs.declared.port.PortMetrics.{PortMetrics}
use Rattle.pon_run.specs.declared.numbers.TheConstants.{BYTES_OF_KBIT}
use Rattle.pon_run.specs.declared.watch.PortNumbers.{PortNumbers}
use Rattle.pon_run.specs.declared.watch.Service.{Service}
use Rattle.pon_run.specs.declared.watch.Service.TheVariants.{Served, Waiting, Ended}
use Rattle.pon_run.specs.declared.numbers.PortPlan.{PortPlan}

-- the cause of a failure, or 0 if there is none
abbrev pub cause_number : Option ℕ → ℕ
cause_number None = 0
cause_number (Some cause) = cause

-- what the state of a port says, with rates in bytes per second
abbrev pub plan_of_state : State → PortPlan
plan_of_state s = record {
  cause = cause_number s.cause;
  alloc_ids = length s.roster;
  onus = length (onus_of s.roster);
  guaranteed = BYTES_OF_KBIT * promised_sum s.roster;
  capacity = BYTES_OF_KBIT * (WORD_RATE * capacity s.rule s.gap s.roster);
}

abbrev pub plan_of : Chapter → PortPlan
plan_of c = plan_of_state (present_state c)

abbrev pub is_served : Service → Bool
is_served Served = true
is_served Waiting = false
is_served (Ended why) = false

abbrev pub is_ended : Service → Bool
is_ended Served = false
is_ended Waiting = false
is_ended (Ended why) = true

-- the numbers of a port, how it is served, and what its state says, if that is known
abbrev pub metrics_of : PortNumbers → Service → Option PortPlan → PortMetrics
metrics_of n service plan = record {
  up = is_served service;
  ended = is_ended service;
  cause = option_map (λ p. p.cause) plan;
  maps = n.counts.maps;
  reports = n.counts.reports;
  refused = n.counts.refused;
  damaged = n.counts.garbled - n.counts.unowned;
  unowned = n.counts.unowned;
  late = n.late;
  latest = n.latest;
  recorded = n.recorded;
  dropped = n.dropped;
  connections = n.connections;
  alloc_ids = option_map (λ p. p.alloc_ids) plan;
  onus = option_map (λ p. p.onus) plan;
  guaranteed = option_map (λ p. p.guaranteed) plan;
  capacity = option_map (λ p. p.capacity) plan;
}
