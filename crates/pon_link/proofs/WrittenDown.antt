-- The written bytes of a downstream record are that record, and no other.
use Rattle.std.proofs.Common.{◌≡◌, ℕ, zero, suc, ◌+◌, ◌*◌, ◌^◌, ◌<◌, List, [], ◌∷◌, ◌++◌, length, All, sym, subst, refl, arith}
use Rattle.std.specs.List.{flat_map}
use Rattle.std.specs.Int.{w32, w64, to_be_bytes}
use Rattle.std.proofs.lemmas.Nat.{from_be_bytes-to_be_bytes_8}
use Rattle.std.proofs.lemmas.List.{append-nil}
use Rattle.std.proofs.lemmas.List.Concat.{flat_map-cons}
use Rattle.pon_lists.specs.Bytes.{AreBytes}
use Rattle.pon_xgtc.specs.Header.{header_bytes}
use Rattle.pon_xgtc.specs.HLend.{hlend_payload}
use Rattle.pon_hec.specs.HeaderCode.{sealed}
use Rattle.pon_bwmap.specs.Alloc.{Alloc}
use Rattle.pon_bwmap.specs.MapBytes.{map_bytes, structure_bytes, structure_payload}
use Rattle.pon_bwmap.specs.MapRules.{IsMap}
use Rattle.pon_bwmap.specs.MapReading.{FitsStructure, ReadsMap}
use Rattle.pon_bwmap.proofs.ReadsBack.{map_length, reads_back}
use Rattle.pon_link.specs.DownRecords.{IsDownRecord, down_bytes}
use Rattle.pon_link.specs.declared.record.DownRecord.{DownRecord}
use Rattle.pon_link.proofs.DownReading.{one_down_record}

pub written_record : (frame : ℕ) (rows : List Alloc) → frame < 2 ^ 64 → IsMap rows → All FitsStructure rows → IsDownRecord (down_bytes frame rows) (record { frame = frame; map = rows })
written_record frame rows lt map fits = record {
  size = omega (arith, map_length rows);
  tag = refl;
  frame = from_be_bytes-to_be_bytes_8 frame lt;
  corrected = 0;
  map = subst (λ (t : List ℕ). ReadsMap t rows 0 (4 + 8 * length rows)) (append-nil (map_bytes rows)) (reads_back rows [] map fits);
}

-- ---- the written numbers are bytes

bytes_joined : (xs ys : List ℕ) → AreBytes xs → AreBytes ys → AreBytes (xs ++ ys)
bytes_joined [] ys a b k = b k
bytes_joined (x ∷ xs) ys a b zero = a 0
bytes_joined (x ∷ xs) ys a b (suc k) = bytes_joined xs ys (λ i. a (suc i)) b k

four_bytes : (n : ℕ) → AreBytes (to_be_bytes w32 n)
four_bytes n zero = omega arith
four_bytes n (suc zero) = omega arith
four_bytes n (suc (suc zero)) = omega arith
four_bytes n (suc (suc (suc zero))) = omega arith
four_bytes n (suc (suc (suc (suc k)))) = omega arith

eight_bytes : (n : ℕ) → AreBytes (to_be_bytes w64 n)
eight_bytes n zero = omega arith
eight_bytes n (suc zero) = omega arith
eight_bytes n (suc (suc zero)) = omega arith
eight_bytes n (suc (suc (suc zero))) = omega arith
eight_bytes n (suc (suc (suc (suc zero)))) = omega arith
eight_bytes n (suc (suc (suc (suc (suc zero))))) = omega arith
eight_bytes n (suc (suc (suc (suc (suc (suc zero)))))) = omega arith
eight_bytes n (suc (suc (suc (suc (suc (suc (suc zero))))))) = omega arith
eight_bytes n (suc (suc (suc (suc (suc (suc (suc (suc k)))))))) = omega arith

rows_bytes : (rows : List Alloc) → AreBytes (flat_map structure_bytes rows)
rows_bytes [] = λ k. omega arith
rows_bytes (a ∷ rows) =
    subst AreBytes (sym (flat_map-cons structure_bytes a rows)) (bytes_joined (structure_bytes a) (flat_map structure_bytes rows) (eight_bytes (sealed (structure_payload a))) (rows_bytes rows))

map_are_bytes : (rows : List Alloc) → AreBytes (map_bytes rows)
unfolding map_bytes
map_are_bytes rows = bytes_joined (header_bytes (hlend_payload (record { n = length rows; p = 0 }))) (flat_map structure_bytes rows) (four_bytes (sealed (hlend_payload (record { n = length rows; p = 0 })))) (rows_bytes rows)

down_are_bytes : (frame : ℕ) (rows : List Alloc) → AreBytes (down_bytes frame rows)
down_are_bytes frame rows zero = omega arith
down_are_bytes frame rows (suc k) = bytes_joined (to_be_bytes w64 frame) (map_bytes rows) (eight_bytes frame) (map_are_bytes rows) k

pub written_down : (frame : ℕ) (rows : List Alloc) (r : DownRecord) → frame < 2 ^ 64 → IsMap rows → All FitsStructure rows
    → (IsDownRecord (down_bytes frame rows) r → r ≡ record { frame = frame; map = rows }) × (r ≡ record { frame = frame; map = rows } → IsDownRecord (down_bytes frame rows) r)
written_down frame rows r lt map fits =
    let written = written_record frame rows lt map fits in
    let small : AreBytes (down_bytes frame rows ++ []) = subst AreBytes (sym (append-nil (down_bytes frame rows))) (down_are_bytes frame rows) in (
      λ h. one_down_record (down_bytes frame rows) [] r (record { frame = frame; map = rows }) small h written,
      λ is. subst (λ (s : DownRecord). IsDownRecord (down_bytes frame rows) s) (sym is) written,
    )
