-- The bytes of a downstream record: the tag 0x44, the frame in 8 bytes, and the bytes of a bandwidth map (ITU-T
-- G.987.3) that announces no message.
use Rattle.std.specs.Prelude.{◌≡◌, ℕ, ◌+◌, ◌*◌, List, ◌∷◌, ◌++◌, length, slice_index, slice_range, drop, Option, Result, Ok, Err}
use Rattle.std.specs.Int.{w64, to_be_bytes, from_be_bytes}
use Rattle.pon_bwmap.specs.Alloc.{Alloc}
use Rattle.pon_bwmap.specs.MapBytes.{map_bytes}
use Rattle.pon_bwmap.specs.MapReading.{ReadsMap}
use Rattle.pon_bwmap.specs.MapFaults.{IsFirstMapFault}
use Rattle.pon_bwmap.specs.declared.fault.MapFault.TheVariants as map_fault
use Rattle.pon_link.specs.Reading.{ReaderState, Returns, IsWholeRecord, HasRefusedMap}
use Rattle.pon_link.specs.declared.direction.Direction.TheVariants.{Down}
use Rattle.pon_link.specs.declared.record.DownRecord.{DownRecord}
use Rattle.pon_link.specs.declared.fault.DownFault.{DownFault}
use Rattle.pon_link.specs.declared.fault.DownFault.TheVariants.{Link, Memory}
use Rattle.pon_link.specs.declared.fault.LinkFault.TheVariants.{BadMap}

-- the bytes of a record with the map of a frame
abbrev pub down_bytes : ℕ → List Alloc → List ℕ
down_bytes frame rows = 0x44 ∷ (to_be_bytes w64 frame ++ map_bytes rows)

-- The bytes are one whole downstream record, field by field; bit errors of the map's header words are corrected.
pub record IsDownRecord (bytes : List ℕ) (r : DownRecord) : Type 0 where
  pub size : length bytes ≡ 13 + 8 * length r.map
  pub tag : slice_index bytes 0 ≡ 0x44
  pub frame : from_be_bytes w64 (slice_range bytes 1 9) ≡ r.frame
  pub corrected : ℕ
  pub map : ReadsMap (drop 9 bytes) r.map corrected (4 + 8 * length r.map)

-- The bytes are a whole record without a fault, for whose map memory is needed.
abbrev pub WantsMemory : List ℕ → Type 0
WantsMemory bytes = IsWholeRecord Down bytes × IsFirstMapFault (drop 9 bytes) map_fault.Memory

-- why the bytes of a whole record have no record
abbrev pub KeepsDown : List ℕ → DownFault → Type 0
KeepsDown bytes (Link fault) = (fault ≡ BadMap) × HasRefusedMap bytes
KeepsDown bytes Memory = WantsMemory bytes

-- A reader of downstream records returns one as each reader does; or memory is refused, and it is unchanged.
abbrev pub GivesDown : ReaderState → ReaderState → Result (Option DownRecord) DownFault → Type 0
GivesDown old new (Ok given) = Returns IsDownRecord old new (Ok given)
GivesDown old new (Err (Link fault)) = Returns IsDownRecord old new (Err fault)
GivesDown old new (Err Memory) = WantsMemory old.held × (new ≡ old)
