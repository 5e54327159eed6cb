-- A plant is the list of its ports' chapters; the number of a port is its index in the list.
use Rattle.std.specs.Prelude.{ℕ, ◌≡◌, ◌<◌, ◌≤◌, ◌⊎◌, List, [], length, map, All}
use Rattle.pon_state.specs.State.{just_opened}
use Rattle.pon_admit.specs.declared.port_cfg.PortCfg.{PortCfg}
use Rattle.pon_history.specs.Chapters.{Chapter, IsLawfulChapter}
use Rattle.pon_units.specs.declared.limits.TheConstants.{MAX_PORTS}
use Rattle.pon_plant.specs.declared.fault.PlantFault.{PlantFault}
use Rattle.pon_plant.specs.declared.fault.PlantFault.TheVariants.{Ports, Memory}

-- the permitted number of ports of a plant
abbrev pub IsPlantSize : ℕ → Type 0
IsPlantSize ports = (0 < ports) × (ports ≤ MAX_PORTS)

-- a plant of permitted size, with a lawful history at each port
pub record IsPlant (plant : List Chapter) : Type 0 where
  pub size : IsPlantSize (length plant)
  pub lawful : All IsLawfulChapter plant

-- the chapter of a port just opened: number 0, no entries
abbrev pub opened_port : PortCfg × ℕ → Chapter
opened_port p = record { number = 0; opening = just_opened p.0.gap p.0.profile p.1; entries = [] }

abbrev pub opened_ports : List (PortCfg × ℕ) → List Chapter
opened_ports ports = map opened_port ports

-- why a plant with this number of ports is not opened
abbrev pub TellsOpening : ℕ → PlantFault → Type 0
TellsOpening ports Ports = (ports ≡ 0) ⊎ (MAX_PORTS < ports)
TellsOpening ports Memory = IsPlantSize ports
