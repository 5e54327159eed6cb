-- The bytes of a map read as that map.
use Rattle.std.proofs.Common.{◌≡◌, ℕ, ◌+◌, ◌*◌, ◌^◌, ◌<◌, ◌≤◌, Bool, true, false, List, [], ◌∷◌, ◌++◌, length, All, Option, Some, None, IfSome, refl, ap, sym, ◌∙◌, subst, arith}
use Rattle.std.specs.List.{flat_map}
use Rattle.std.specs.Int.{w64, from_be_bytes}
use Rattle.std.proofs.lemmas.Nat.{from_be_bytes-to_be_bytes_8}
use Rattle.std.proofs.lemmas.List.{length-append}
use Rattle.std.proofs.lemmas.List.Concat.{flat_map-cons}
use Rattle.std.proofs.lemmas.List.Elements.{All-head, All-tail}
use Rattle.pon_hec.specs.HeaderCode.{Reads, sealed}
use Rattle.pon_hec.proofs.HeaderLaws.{sealed_codeword}
use Rattle.pon_hec.proofs.Opening.{reads_none}
use Rattle.pon_xgtc.specs.Header.{header_bytes}
use Rattle.pon_xgtc.specs.HLend.{HLend, hlend_payload}
use Rattle.pon_xgtc.proofs.HeaderReading.{header_reads}
use Rattle.pon_bwmap.specs.Alloc.{Alloc}
use Rattle.pon_bwmap.specs.MapBytes.{flag_bit, start_field, structure_payload, structure_bytes, map_bytes}
use Rattle.pon_bwmap.specs.MapRules.{IsMap}
use Rattle.pon_bwmap.specs.MapReading.{FitsStructure, ReadsStructure, ReadsRows, ReadsMap}

pub flag_small : (b : Bool) → flag_bit b ≤ 1
flag_small true = omega arith
flag_small false = omega arith

pub start_small : (start : Option ℕ) → IfSome start (λ s. s < 0xffff) → start_field start ≤ 65535
start_small (Some s) lt = omega (arith, lt)
start_small None lt = omega arith

payload_small : (a : Alloc) → FitsStructure a → structure_payload a < 2 ^ 51
payload_small a fits = omega (arith, fits.id, fits.grant, fits.profile, flag_small a.dbru, flag_small a.ploam, flag_small a.fwi, start_small a.start fits.start)

structure_reads : (a : Alloc) (rest : List ℕ) → FitsStructure a → ReadsStructure (structure_bytes a ++ rest) a 0
structure_reads a rest fits =
    let lt = payload_small a fits in
    let code = sealed_codeword (2 ^ 64) (structure_payload a) lt (omega (arith, lt)) in
    let word : from_be_bytes w64 (structure_bytes a ++ rest) ≡ sealed (structure_payload a) = from_be_bytes-to_be_bytes_8 (sealed (structure_payload a)) code.0.below in
    let read : Reads (2 ^ 64) (sealed (structure_payload a)) (structure_payload a) 0
    = subst (λ (p : ℕ). Reads (2 ^ 64) (sealed (structure_payload a)) p 0) code.1 (reads_none 64 (sealed (structure_payload a)) code.0) in
    record { fits = fits; whole = omega arith; word = subst (λ (w : ℕ). Reads (2 ^ 64) w (structure_payload a) 0) (sym word) read }

rows_read : (rows : List Alloc) (rest : List ℕ) → All FitsStructure rows → ReadsRows (flat_map structure_bytes rows ++ rest) rows 0
rows_read [] rest fits = refl
rows_read (a ∷ rows) rest fits =
    let joined : flat_map structure_bytes (a ∷ rows) ++ rest ≡ structure_bytes a ++ (flat_map structure_bytes rows ++ rest) = ap (λ (bs : List ℕ). bs ++ rest) (flat_map-cons structure_bytes a rows) in
    subst (λ (bs : List ℕ). ReadsRows bs (a ∷ rows) 0) (sym joined)
    (0, 0, structure_reads a (flat_map structure_bytes rows ++ rest) (All-head FitsStructure a rows fits), rows_read rows rest (All-tail FitsStructure a rows fits), refl)

rows_length : (rows : List Alloc) → length (flat_map structure_bytes rows) ≡ 8 * length rows
rows_length [] = refl
rows_length (a ∷ rows) = ap (λ (bs : List ℕ). length bs) (flat_map-cons structure_bytes a rows) ∙ omega (arith, rows_length rows)

-- the number of bytes of a map
pub map_length : (rows : List Alloc) → length (map_bytes rows) ≡ 4 + 8 * length rows
unfolding map_bytes
map_length rows = omega (arith, length-append (header_bytes (hlend_payload (record { n = length rows; p = 0 }))) (flat_map structure_bytes rows), rows_length rows)

pub reads_back : (rows : List Alloc) (rest : List ℕ) → IsMap rows → All FitsStructure rows → ReadsMap (map_bytes rows ++ rest) rows 0 (4 + 8 * length rows)
unfolding map_bytes
reads_back rows rest map fits =
    let head : HLend = record { n = length rows; p = 0 } in
    record {
      head = record { n = length rows; p = 0 };
      in_head = 0;
      in_rows = 0;
      reads_head = record {
        reads = record {
          fits = record { n = omega (arith, map.count); p = omega arith };
          header = header_reads (hlend_payload (record { n = length rows; p = 0 })) (flat_map structure_bytes rows ++ rest) (omega (arith, map.count));
        };
        count = map.count;
        whole = omega (arith, length-append (flat_map structure_bytes rows) rest, rows_length rows);
      };
      reads_rows = record { counted = refl; reads = rows_read rows rest fits; is_map = map };
      corrected_is = omega arith;
      used_is = omega arith;
    }
