-- The rows of a port in settings (TOML): the row of each table, and their admission in order.
use Rattle.std.specs.Prelude.{ℕ, ◌≡◌, nat_lt, ◌||◌, if◌then◌else◌, List, [], ◌∷◌, map, take, fold, slice_get, codes, Option, Some, None, option_and_then}
use Rattle.pon_units.specs.declared.limits.TheConstants.{MAX_ALLOC_ID, MAX_ONU_ID, MIN_ALLOC_ID}
use Rattle.toml.specs.Data.{Data, Members, as_table}
use Rattle.pon_descr.specs.Checks.{when, or_else, first_refusal_of}
use Rattle.pon_descr.specs.Descriptor.{Descriptor, descriptor_refusal}
use Rattle.pon_descr.specs.Tables.{described}
use Rattle.pon_descr.specs.declared.refusal.Refusal.{Refusal}
use Rattle.pon_descr.specs.declared.refusal.Refusal.TheVariants.{AllocRange, OnuRange, OutOfMemory}
use Rattle.pon_descr.specs.declared.table.DescrFault.{DescrFault}
use Rattle.pon_descr.specs.declared.table.DescrFault.TheVariants as descr
use Rattle.pon_admit.specs.Roster.{Roster, refuses_admit, rule_in_force, with_row}
use Rattle.pon_admit.specs.declared.row.Row.{Row}
use Rattle.pon_settings.specs.declared.place.Place.TheVariants as place
use Rattle.pon_settings.specs.declared.fault.SettingsFault.{SettingsFault}
use Rattle.pon_settings.specs.declared.fault.SettingsFault.TheVariants as fault
use Rattle.pon_settings.specs.declared.row.Numbers.{Numbers}
use Rattle.pon_settings.specs.declared.row.RowFault.{RowFault}
use Rattle.pon_settings.specs.declared.row.RowFault.TheVariants.{Form, Refused, Memory}
pub use Rattle.pon_settings.specs.declared.row.SettingsRow.{SettingsRow}
use Rattle.pon_settings.specs.Keys.{has_known_keys}
use Rattle.pon_settings.specs.Fields.{required, optional, greatest_integer}

-- the maximum number of words that wait in a simulated unit
abbrev pub most_queue : ℕ
most_queue = 4294967295

abbrev pub numbers_from : Option ℕ → Option ℕ → Option ℕ → Option Numbers
numbers_from (Some onu) (Some alloc) (Some queue) = Some (record { onu = onu; alloc_id = alloc; queue = queue })
numbers_from _ _ _ = None

-- the numbers of a row, except those of its descriptor; no unknown key is allowed
abbrev pub numbers_of : Members → Option Numbers
numbers_of t = if has_known_keys place.Row t
    then numbers_from (required (codes "onu") 0 greatest_integer t) (required (codes "alloc") 0 greatest_integer t) (optional (codes "queue") most_queue t)
    else None

abbrev pub row_from : Option Numbers → Option Descriptor → Option SettingsRow
row_from (Some n) (Some d) = Some (record { row = record { onu = n.onu; alloc_id = n.alloc_id; descriptor = d }; queue = n.queue })
row_from _ _ = None

-- the row that a table spells, with identifiers and rates in range or not
abbrev pub row_of : Members → Option SettingsRow
row_of t = row_from (numbers_of t) (described t)

abbrev pub row_at : Data → Option SettingsRow
row_at d = option_and_then row_of (as_table d)

-- the refusal of the numbers of a row: the Alloc-ID is checked first, then the ONU-ID, then the descriptor
abbrev pub id_refusal : ℕ → ℕ → Option Refusal
id_refusal alloc onu = first_refusal_of (when (nat_lt alloc MIN_ALLOC_ID || nat_lt MAX_ALLOC_ID alloc) AllocRange ∷ when (nat_lt MAX_ONU_ID onu) OnuRange ∷ [])

abbrev pub number_refusal : Row → Option Refusal
number_refusal r = or_else (id_refusal r.alloc_id r.onu) (descriptor_refusal r.descriptor)

-- the refusal of a row: by its numbers, then by its admission to the roster
abbrev pub row_refusal : Roster → Row → Option Refusal
row_refusal roster r = or_else (number_refusal r) (refuses_admit roster.rule roster.gap roster.rows r)

-- the roster of a port with these rows, admitted in order
abbrev pub roster_after : ℕ → List SettingsRow → Roster
roster_after gap rows = record { rule = rule_in_force; gap = gap; rows = fold (λ admitted r. with_row r.row admitted) [] rows }

-- each row is admitted after those before it
abbrev pub AreAdmitted : ℕ → List SettingsRow → Type 0
AreAdmitted gap rows = (k : ℕ) (r : SettingsRow) → slice_get rows k ≡ Some r → row_refusal (roster_after gap (take k rows)) r.row ≡ None

-- the tables spell the rows, and the rows are admitted in order
pub record SpellsRows (gap : ℕ) (tables : List Data) (rows : List SettingsRow) : Type 0 where
  pub each : map row_at tables ≡ map Some rows
  pub admitted : AreAdmitted gap rows

-- the rows before the table of this index are spelled and admitted, and the table is at fault
pub record StandsAtRow (gap : ℕ) (tables : List Data) (k : ℕ) (IsFault : Roster → Option SettingsRow → Type 0) : Type 0 where
  pub table : Data
  pub here : slice_get tables k ≡ Some table
  pub before : List SettingsRow
  pub earlier : SpellsRows gap (take k tables) before
  pub fault : IsFault (roster_after gap before) (row_at table)

-- the table spells no row
abbrev pub IsNoRow : Roster → Option SettingsRow → Type 0
IsNoRow roster row = row ≡ None

-- the row is refused
abbrev pub IsRefusedRow : Refusal → Roster → Option SettingsRow → Type 0
IsRefusedRow why roster row = (r : SettingsRow) × (row ≡ Some r) × (row_refusal roster r.row ≡ Some why)

-- the first fault of the rows of a port, row by row
abbrev pub IsRowsFault : ℕ → ℕ → List Data → SettingsFault → Type 0
IsRowsFault port gap tables fault.Text = ⊥
IsRowsFault port gap tables fault.Ports = ⊥
IsRowsFault port gap tables (fault.Field p) = ⊥
IsRowsFault port gap tables (fault.Row p k) = (p ≡ port) × StandsAtRow gap tables k IsNoRow
IsRowsFault port gap tables (fault.Refused p k why) = (p ≡ port) × StandsAtRow gap tables k (IsRefusedRow why)
IsRowsFault port gap tables fault.Memory = Unit {0}

-- The results of the parts of the reader.

abbrev pub descriptor_fault : DescrFault → RowFault
descriptor_fault descr.Field = Form
descriptor_fault (descr.Refused why) = Refused why

abbrev pub admission_fault : Refusal → RowFault
admission_fault OutOfMemory = Memory
admission_fault why = Refused why

abbrev pub fault_at : ℕ → ℕ → RowFault → SettingsFault
fault_at port k Form = fault.Row port k
fault_at port k (Refused why) = fault.Refused port k why
fault_at port k Memory = fault.Memory

-- the table spells no row, or one whose numbers are refused
abbrev pub IsRowFault : Option SettingsRow → RowFault → Type 0
IsRowFault None fault = fault ≡ Form
IsRowFault (Some r) fault = (why : Refusal) × (number_refusal r.row ≡ Some why) × (fault ≡ Refused why)

-- the refusal; out of memory only if there is none
abbrev pub IsToldAs : Option Refusal → RowFault → Type 0
IsToldAs None fault = fault ≡ Memory
IsToldAs (Some why) fault = fault ≡ Refused why

-- the table spells no row, or one that is not admitted
abbrev pub IsAdmissionFault : Roster → Option SettingsRow → RowFault → Type 0
IsAdmissionFault roster None fault = fault ≡ Form
IsAdmissionFault roster (Some r) fault = IsToldAs (row_refusal roster r.row) fault

-- the row that a table spells is admitted to a roster
pub record Admits (roster : Roster) (table : Data) (after : Roster) (r : SettingsRow) : Type 0 where
  pub spelled : row_at table ≡ Some r
  pub accepted : row_refusal roster r.row ≡ None
  pub after_it : after ≡ record { rule = roster.rule; gap = roster.gap; rows = with_row r.row roster.rows }
