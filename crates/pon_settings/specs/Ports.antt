-- The ports of settings (TOML): the port of each table, and the first fault.
use Rattle.std.specs.Prelude.{ℕ, suc, ◌≡◌, ◌≤◌, nat_le, ◌&&◌, if◌then◌else◌, List, [], ◌∷◌, ◌++◌, map, length, take, slice_get, codes, Option, Some, None, Result, Ok, Err, String, option_and_then}
use Rattle.std.specs.List.{AllZip}
use Rattle.toml.specs.Data.{Data, Members, as_table}
use Rattle.toml.specs.Parse.{parse_document}
use Rattle.toml.specs.View.{table_view}
use Rattle.toml.specs.declared.value.Value.{Value}
use Rattle.std.specs.BTreeMap.{BTreeMap}
use Rattle.std.specs.declared.alloc.Global.{Global}
use Rattle.toml.specs.declared.de.error.Error.{Error}
use Rattle.pon_units.specs.declared.limits.TheConstants.{MAX_GAP, MAX_PORTS, MIN_GAP}
use Rattle.pon_admit.specs.declared.event.Event.TheVariants.{Admit}
use Rattle.pon_admit.specs.declared.step.Step.{Step}
use Rattle.pon_admit.specs.declared.port_cfg.PortCfg.{PortCfg}
use Rattle.pon_settings.specs.declared.document.Document.{Document}
use Rattle.pon_settings.specs.declared.place.Place.TheVariants as place
use Rattle.pon_settings.specs.declared.fault.SettingsFault.{SettingsFault}
use Rattle.pon_settings.specs.declared.fault.SettingsFault.TheVariants as fault
use Rattle.pon_settings.specs.declared.row.SettingsRow.{SettingsRow}
use Rattle.pon_settings.specs.Keys.{has_known_keys}
use Rattle.pon_settings.specs.Fields.{required, optional, optional_tables, required_tables, greatest_integer}
use Rattle.pon_settings.specs.Rows.{SpellsRows, IsRowsFault}

-- a port: its configuration and first frame, and its rows
pub record PortSettings : Type 0 where
  pub opening : PortCfg × ℕ
  pub rows : List SettingsRow

-- a port's own fields: its configuration and first frame, and the tables of its rows
pub record PortFields : Type 0 where
  pub opening : PortCfg × ℕ
  pub tables : List Data

-- the gap in words, the burst profile, and the first frame
abbrev pub gap_of : Members → Option ℕ
gap_of t = required (codes "gap") MIN_GAP MAX_GAP t

abbrev pub profile_of : Members → Option ℕ
profile_of t = optional (codes "profile") 3 t

abbrev pub first_frame_of : Members → Option ℕ
first_frame_of t = optional (codes "first") greatest_integer t

abbrev pub opening_from : Option ℕ → Option ℕ → Option ℕ → Option (PortCfg × ℕ)
opening_from (Some gap) (Some profile) (Some first) = Some (record { gap = gap; profile = profile }, first)
opening_from _ _ _ = None

-- the configuration and the first frame of a port; no other key is allowed
abbrev pub opening_of : Members → Option (PortCfg × ℕ)
opening_of t = if has_known_keys place.Port t then opening_from (gap_of t) (profile_of t) (first_frame_of t) else None

abbrev pub fields_from : Option (PortCfg × ℕ) → Option (List Data) → Option PortFields
fields_from (Some opening) (Some tables) = Some (record { opening = opening; tables = tables })
fields_from _ _ = None

-- a port's own fields
abbrev pub port_fields : Members → Option PortFields
port_fields t = fields_from (opening_of t) (optional_tables (codes "alloc") t)

abbrev pub port_fields_at : Data → Option PortFields
port_fields_at d = option_and_then port_fields (as_table d)

-- the table spells the port
pub record SpellsPort (table : Data) (port : PortSettings) : Type 0 where
  pub tables : List Data
  pub fields : port_fields_at table ≡ Some (record { opening = port.opening; tables = tables })
  pub rows : SpellsRows port.opening.0.gap tables port.rows

-- the fields of the port are well formed, and this is the first fault of its rows
pub record StandsInRows (port : ℕ) (table : Data) (fault : SettingsFault) : Type 0 where
  pub own : PortFields
  pub fields : port_fields_at table ≡ Some own
  pub first : IsRowsFault port own.opening.0.gap own.tables fault

-- the first fault of a port: its own fields, then its rows
abbrev pub IsPortFault : ℕ → Data → SettingsFault → Type 0
IsPortFault port found fault.Text = ⊥
IsPortFault port found fault.Ports = ⊥
IsPortFault port found (fault.Field p) = (p ≡ port) × (port_fields_at found ≡ None)
IsPortFault port found (fault.Row p k) = StandsInRows port found (fault.Row p k)
IsPortFault port found (fault.Refused p k why) = StandsInRows port found (fault.Refused p k why)
IsPortFault port found fault.Memory = Unit {0}

-- The list of the ports.

-- the permitted number of ports
abbrev pub IsPortCount : ℕ → Type 0
IsPortCount n = (1 ≤ n) × (n ≤ MAX_PORTS)

abbrev pub if_few : List Data → Option (List Data)
if_few ds = if nat_le 1 (length ds) && nat_le (length ds) MAX_PORTS then Some ds else None

-- the tables of the ports, 1 to 64; no other key is allowed at the top
abbrev pub port_tables : Members → Option (List Data)
port_tables t = if has_known_keys place.Top t then option_and_then if_few (required_tables (codes "port") t) else None

-- the ports before one are spelled, and this is the first fault of that port
pub record StandsAtPort (tables : List Data) (fault : SettingsFault) : Type 0 where
  pub port : ℕ
  pub table : Data
  pub here : slice_get tables port ≡ Some table
  pub before : List PortSettings
  pub earlier : AllZip SpellsPort (take port tables) before
  pub first : IsPortFault port table fault

-- the first fault of the ports, port by port
abbrev pub IsPortsFault : List Data → SettingsFault → Type 0
IsPortsFault tables fault.Text = ⊥
IsPortsFault tables fault.Ports = ⊥
IsPortsFault tables (fault.Field p) = StandsAtPort tables (fault.Field p)
IsPortsFault tables (fault.Row p k) = StandsAtPort tables (fault.Row p k)
IsPortsFault tables (fault.Refused p k why) = StandsAtPort tables (fault.Refused p k why)
IsPortsFault tables fault.Memory = Unit {0}

-- Whole texts. A document is the table of a text, or `None` if the text is not TOML.

abbrev pub table_read : Result (BTreeMap (String Global) Value) Error → Option Members
table_read (Ok table) = Some (table_view table)
table_read (Err error) = None

-- the document that was parsed
abbrev pub document_of : Document → Option Members
document_of d = table_read d.read

-- the document's table has a list of ports, and its tables spell these ports
pub record Spells (document : Option Members) (ports : List PortSettings) : Type 0 where
  pub table : Members
  pub is_toml : document ≡ Some table
  pub tables : List Data
  pub list : port_tables table ≡ Some tables
  pub each : AllZip SpellsPort tables ports

-- the document's table has no list of ports
pub record HasNoPorts (document : Option Members) : Type 0 where
  pub table : Members
  pub is_toml : document ≡ Some table
  pub list : port_tables table ≡ None

-- the document's table has a list of ports, and this is their first fault
pub record StandsInPorts (document : Option Members) (fault : SettingsFault) : Type 0 where
  pub table : Members
  pub is_toml : document ≡ Some table
  pub tables : List Data
  pub list : port_tables table ≡ Some tables
  pub first : IsPortsFault tables fault

-- the first fault of a document
abbrev pub IsFirstSettingsFault : Option Members → SettingsFault → Type 0
IsFirstSettingsFault document fault.Text = document ≡ None
IsFirstSettingsFault document fault.Ports = HasNoPorts document
IsFirstSettingsFault document (fault.Field p) = StandsInPorts document (fault.Field p)
IsFirstSettingsFault document (fault.Row p k) = StandsInPorts document (fault.Row p k)
IsFirstSettingsFault document (fault.Refused p k why) = StandsInPorts document (fault.Refused p k why)
IsFirstSettingsFault document fault.Memory = Unit {0}

-- The configuration and first frame of each port, and the steps that admit their rows.

abbrev pub openings : List PortSettings → List (PortCfg × ℕ)
openings ports = map (λ p. p.opening) ports

abbrev pub admission : ℕ → SettingsRow → Step
admission port r = record { port = port; event = Admit r.row }

-- the steps that admit the rows of the ports, numbered from this number on
abbrev pub steps_from : ℕ → List PortSettings → List Step
steps_from port [] = []
steps_from port (p ∷ ports) = map (admission port) p.rows ++ steps_from (suc port) ports

-- a text spells settings with these ports and steps
pub record IsOpening (text : List ℕ) (opened : List (PortCfg × ℕ)) (steps : List Step) : Type 0 where
  pub ports : List PortSettings
  pub spelled : Spells (parse_document text) ports
  pub opens : opened ≡ openings ports
  pub admits : steps ≡ steps_from 0 ports
