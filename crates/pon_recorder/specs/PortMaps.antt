-- The maps of a port in the devices of a recording.
use Rattle.std.specs.Prelude.{ℕ, ◌+◌, ◌-◌, ◌^◌, ◌==◌, ◌&&◌, Bool, false, if◌then◌else◌, List, Option, Some, None, count_by, min, nat_le}
use Rattle.std.specs.List.{list_any}
use Rattle.pon_state.specs.Entry.{Entry}
use Rattle.pon_state.specs.Maps.{makes_map}
use Rattle.pon_recorder.specs.declared.port_maps.PortMaps.{PortMaps}

-- the number of maps of entries
abbrev pub map_count : List Entry → ℕ
map_count es = count_by (λ e. makes_map e.event) es

-- more maps of a port in a device: those in another device do not count
abbrev pub maps_after : PortMaps → ℕ → ℕ → PortMaps
maps_after before device more = record { device = device; maps = min ((if before.device == device then before.maps else 0) + more) (2 ^ 64 - 1) }

-- these are at least so many maps in the device after this number of devices
abbrev pub are_most : ℕ → ℕ → PortMaps → Bool
are_most device most maps = maps.device == device && nat_le most maps.maps

-- one of the ports with these maps has those after which a recording goes on, if it ever does, in the device after this
-- number of devices
abbrev pub any_full : {P : Type 0} → (P → PortMaps) → Option ℕ → ℕ → List P → Bool
any_full maps None device ports = false
any_full maps (Some most) device ports = list_any (λ p. are_most device most (maps p)) ports
