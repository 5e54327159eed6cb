-- Downstream bytes have at most one reading as a record, and a record gives its size.
use Rattle.std.proofs.Common.{◌≡◌, ◌≢◌, ℕ, ◌+◌, ◌*◌, ◌<◌, List, ◌++◌, length, drop, All, sym, ◌∙◌, arith}
use Rattle.pon_bwmap.specs.MapFaults.{IsFirstMapFault}
use Rattle.pon_bwmap.specs.declared.fault.MapFault.{MapFault}
use Rattle.pon_bwmap.specs.declared.fault.MapFault.TheVariants as map_fault
use Rattle.pon_bwmap.proofs.OneMap.{one_map, no_fault}
use Rattle.pon_lists.specs.Bytes.{AreBytes}
use Rattle.pon_link.specs.DownRecords.{IsDownRecord}
use Rattle.pon_link.specs.Reading.{AnnouncesMap}
use Rattle.pon_link.specs.declared.record.DownRecord.{DownRecord}
use Rattle.pon_lists.proofs.Bytes.{All-from_bytes, bytes-drop, bytes-front}

-- a record gives its own size
pub down_size : (bytes : List ℕ) (r : DownRecord) → IsDownRecord bytes r → AnnouncesMap (drop 9 bytes) (length bytes)
down_size bytes r h = (
  h.map.head,
  h.map.in_head,
  h.map.reads_head.reads,
  h.map.reads_head.count,
  omega (arith, h.map.used_is, h.map.reads_rows.counted),
  omega (arith, h.size, h.map.reads_rows.counted),
)

all_bytes : (bytes : List ℕ) → AreBytes bytes → All (λ b. b < 256) (drop 9 bytes)
all_bytes bytes small = All-from_bytes (drop 9 bytes) (bytes-drop 9 bytes small)

-- the bytes of a record are only that record, whatever follows them
pub one_down_record : (bytes rest : List ℕ) (r s : DownRecord) → AreBytes (bytes ++ rest) → IsDownRecord bytes r → IsDownRecord bytes s → r ≡ s
one_down_record bytes rest r s small h k =
    let same = one_map (drop 9 bytes) r.map s.map h.corrected k.corrected (4 + 8 * length r.map) (4 + 8 * length s.map) (all_bytes bytes (bytes-front bytes rest small)) h.map k.map in
    let frame : r.frame ≡ s.frame = sym h.frame ∙ k.frame in
    let map : r.map ≡ s.map = same.0 in
    λ i. record { frame = frame i; map = map i }

-- a record's map is not refused
pub not_refused : (bytes : List ℕ) (r : DownRecord) (f : MapFault) → AreBytes bytes → IsDownRecord bytes r → IsFirstMapFault (drop 9 bytes) f → f ≢ map_fault.Memory → ⊥
not_refused bytes r f small h first other = other (no_fault (drop 9 bytes) r.map h.corrected (4 + 8 * length r.map) f (all_bytes bytes small) h.map first)
