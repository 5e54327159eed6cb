-- Headers, reports and maps of the line, as C is given them.
use Rattle.std.specs.Prelude.{ℕ, ◌≡◌, ◌<◌, ◌≤◌, ◌++◌, List, drop, length, map, Some, None}
use Rattle.std.specs.declared.option.Option.{Option}
use Rattle.pon_bwmap.specs.Alloc.{Alloc}
use Rattle.pon_bwmap.specs.MapReading.{ReadsMap}
use Rattle.pon_bwmap.specs.MapFaults.{IsFirstMapFault}
use Rattle.pon_bwmap.specs.declared.fault.MapFault.{MapFault}
use Rattle.pon_bwmap.specs.declared.fault.MapFault.TheVariants as map_faults
use Rattle.pon_dbru.specs.Report.{Reports}
use Rattle.pon_xgtc.specs.Header.{IsHeaderFault}
use Rattle.pon_xgtc.specs.declared.fault.HeadFault.{HeadFault}
use Rattle.pon_xgtc.specs.declared.fault.HeadFault.TheVariants as head_faults
use Rattle.pon_c.specs.declared.numbers.TheConstants.{BAD_CODE, OUT_OF_MEMORY, NO_START, SERIES_LONG, SERIES_START, SHORT, START_RANGE, TOO_MANY}
use Rattle.pon_c.specs.declared.codecs.StructureInfo.{StructureInfo}
use Rattle.pon_c.specs.declared.codecs.DecodedInfo.{DecodedInfo}

-- the fields of a burst header are in their ranges
abbrev pub IsHeader : ℕ → ℕ → Type 0
IsHeader onu indications = (onu ≤ 1023) × (indications ≤ 511)

abbrev pub head_fault_number : HeadFault → ℕ
head_fault_number head_faults.Short = SHORT
head_fault_number head_faults.Hec = BAD_CODE

abbrev pub TellsHeaderFault : List ℕ → ℕ → Type 0
TellsHeaderFault bytes n = (fault : HeadFault) × IsHeaderFault bytes fault × (n ≡ head_fault_number fault)

-- four bytes that report these words are at the front of the room
abbrev pub SealsReport : ℕ → List ℕ → List ℕ → Type 0
SealsReport words before after = (bytes : List ℕ) × Reports bytes words × (after ≡ bytes ++ drop 4 before)

abbrev pub start_or : Option ℕ → ℕ
start_or None = NO_START
start_or (Some start) = start

abbrev pub structure_of : Alloc → StructureInfo
structure_of a = record {
  alloc_id = a.id;
  start = start_or a.start;
  grant = a.grant;
  profile = a.profile;
  dbru = a.dbru;
  ploam = a.ploam;
  fwi = a.fwi;
}

abbrev pub structures_of : List Alloc → List StructureInfo
structures_of structures = map structure_of structures

abbrev pub map_fault_number : MapFault → ℕ
map_fault_number map_faults.Short = SHORT
map_fault_number map_faults.HeadHec = BAD_CODE
map_fault_number map_faults.TooMany = TOO_MANY
map_fault_number (map_faults.StructHec k) = BAD_CODE
map_fault_number (map_faults.SeriesStart k) = SERIES_START
map_fault_number (map_faults.StartRange k) = START_RANGE
map_fault_number (map_faults.SeriesLong k) = SERIES_LONG
map_fault_number map_faults.Memory = OUT_OF_MEMORY

abbrev pub map_fault_place : MapFault → ℕ
map_fault_place map_faults.Short = 0
map_fault_place map_faults.HeadHec = 0
map_fault_place map_faults.TooMany = 0
map_fault_place (map_faults.StructHec k) = k
map_fault_place (map_faults.SeriesStart k) = k
map_fault_place (map_faults.StartRange k) = k
map_fault_place (map_faults.SeriesLong k) = k
map_fault_place map_faults.Memory = 0

-- the bytes begin with a map, whose structures are at the front of the rows
abbrev pub TellsMap : List ℕ → DecodedInfo → List StructureInfo → List StructureInfo → Type 0
TellsMap bytes info before after =
    (structures : List Alloc) × ReadsMap bytes structures info.corrected info.size × (info.count ≡ length structures)
    × (after ≡ structures_of structures ++ drop info.count before)

-- the bytes begin with a map, which has more structures than there are rows
abbrev pub TellsFew : List ℕ → DecodedInfo → ℕ → Type 0
TellsFew bytes info row_count =
    (structures : List Alloc) × ReadsMap bytes structures info.corrected info.size × (info.count ≡ length structures) × (row_count < length structures)

abbrev pub TellsMapFault : List ℕ → ℕ → ℕ → Type 0
TellsMapFault bytes n place = (fault : MapFault) × IsFirstMapFault bytes fault × (n ≡ map_fault_number fault) × (place ≡ map_fault_place fault)
