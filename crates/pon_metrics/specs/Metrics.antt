-- The metrics of a port: the name, the type, the help and the unit of each, and its number.
use Rattle.std.specs.Prelude.{ℕ, Bool, true, false, List, [], ◌∷◌, codes, Option, Some}
use Rattle.pon_metrics.specs.declared.port.PortMetrics.{PortMetrics}
use Rattle.pon_metrics.specs.declared.metric.Metric.{Metric}
use Rattle.pon_metrics.specs.declared.metric.Metric.TheVariants.{Up, Ended, Cause, Maps, Late, Latest, Reports, Refused, Damaged, Unowned, Recorded, Dropped, Connections, AllocIds, Onus, Guaranteed, Capacity}

-- the metrics, in the order of the page
abbrev pub metrics : List Metric
metrics = Up ∷ Ended ∷ Cause ∷ Maps ∷ Late ∷ Latest ∷ Reports ∷ Refused ∷ Damaged ∷ Unowned ∷ Recorded ∷ Dropped ∷ Connections ∷ AllocIds ∷ Onus ∷ Guaranteed ∷ Capacity ∷ []

abbrev pub name_of : Metric → List ℕ
name_of Up = codes "olt_port_up"
name_of Ended = codes "olt_port_ended"
name_of Cause = codes "olt_port_failure_cause"
name_of Maps = codes "olt_port_maps_total"
name_of Late = codes "olt_port_late_maps_total"
name_of Latest = codes "olt_port_map_lateness_max_seconds"
name_of Reports = codes "olt_port_reports_total"
name_of Refused = codes "olt_port_refused_reports_total"
name_of Damaged = codes "olt_port_garbled_records_total"
name_of Unowned = codes "olt_port_unowned_records_total"
name_of Recorded = codes "olt_port_recorded_chapters_total"
name_of Dropped = codes "olt_port_dropped_chapters_total"
name_of Connections = codes "olt_port_unit_connections_total"
name_of AllocIds = codes "olt_port_alloc_ids"
name_of Onus = codes "olt_port_onus"
name_of Guaranteed = codes "olt_port_guaranteed_bytes_per_second"
name_of Capacity = codes "olt_port_capacity_bytes_per_second"

abbrev pub kind_of : Metric → List ℕ
kind_of Up = codes "gauge"
kind_of Ended = codes "gauge"
kind_of Cause = codes "gauge"
kind_of Maps = codes "counter"
kind_of Late = codes "counter"
kind_of Latest = codes "gauge"
kind_of Reports = codes "counter"
kind_of Refused = codes "counter"
kind_of Damaged = codes "counter"
kind_of Unowned = codes "counter"
kind_of Recorded = codes "counter"
kind_of Dropped = codes "counter"
kind_of Connections = codes "counter"
kind_of AllocIds = codes "gauge"
kind_of Onus = codes "gauge"
kind_of Guaranteed = codes "gauge"
kind_of Capacity = codes "gauge"

abbrev pub help_of : Metric → List ℕ
help_of Up = codes "Whether the port is served: its worker makes maps."
help_of Ended = codes "Whether the worker of the port has ended."
help_of Cause = codes "Why the port is failed: the cause, 1 to 9, or 0 if it is not failed."
help_of Maps = codes "Maps that the port made."
help_of Late = codes "Maps that began late by the pace."
help_of Latest = codes "Greatest delay of a map by the pace since the run began."
help_of Reports = codes "Reports that the port accepted."
help_of Refused = codes "Reports that the port refused."
help_of Damaged = codes "Records that were dropped since their burst header is damaged."
help_of Unowned = codes "Records that were dropped since no unit owns their burst."
help_of Recorded = codes "Chapters of the port that were recorded."
help_of Dropped = codes "Chapters of the port that were not recorded."
help_of Connections = codes "Connections with units that the port served."
help_of AllocIds = codes "Admitted Alloc-IDs."
help_of Onus = codes "ONUs that own an Alloc-ID."
help_of Guaranteed = codes "Sum of the fixed and assured rates of all Alloc-IDs."
help_of Capacity = codes "Rate that overhead leaves for payload."

-- what follows a number, so that it is in the base unit: microseconds are shown in seconds
abbrev pub factor_of : Metric → List ℕ
factor_of Up = codes ""
factor_of Ended = codes ""
factor_of Cause = codes ""
factor_of Maps = codes ""
factor_of Late = codes ""
factor_of Latest = codes "e-6"
factor_of Reports = codes ""
factor_of Refused = codes ""
factor_of Damaged = codes ""
factor_of Unowned = codes ""
factor_of Recorded = codes ""
factor_of Dropped = codes ""
factor_of Connections = codes ""
factor_of AllocIds = codes ""
factor_of Onus = codes ""
factor_of Guaranteed = codes ""
factor_of Capacity = codes ""

-- a bit as a number
abbrev pub bit : Bool → ℕ
bit true = 1
bit false = 0

-- the number of a port, before the factor; there may be none
abbrev pub value_of : Metric → PortMetrics → Option ℕ
value_of Up p = Some (bit p.up)
value_of Ended p = Some (bit p.ended)
value_of Cause p = p.cause
value_of Maps p = Some p.maps
value_of Late p = Some p.late
value_of Latest p = Some p.latest
value_of Reports p = Some p.reports
value_of Refused p = Some p.refused
value_of Damaged p = Some p.damaged
value_of Unowned p = Some p.unowned
value_of Recorded p = Some p.recorded
value_of Dropped p = Some p.dropped
value_of Connections p = Some p.connections
value_of AllocIds p = p.alloc_ids
value_of Onus p = p.onus
value_of Guaranteed p = p.guaranteed
value_of Capacity p = p.capacity
