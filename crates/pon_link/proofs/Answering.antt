-- The result of a reader for the bytes that it holds.
use Rattle.std.proofs.Common.{◌≡◌, ◌≢◌, ℕ, ◌+◌, ◌-◌, ◌*◌, ◌⊎◌, false, List, length, take, drop, Option, Some, None, Err, MatchOption, refl, sym, subst, inl, inr, arith}
use Rattle.std.specs.Int.{w64, from_be_bytes}
use Rattle.std.proofs.lemmas.Slice.{between_to_end}
use Rattle.pon_bwmap.specs.Alloc.{Alloc}
use Rattle.pon_bwmap.specs.MapReading.{ReadsMap}
use Rattle.pon_bwmap.specs.MapFaults.{IsFirstMapFault}
use Rattle.pon_bwmap.specs.declared.fault.MapFault.{MapFault}
use Rattle.pon_bwmap.specs.declared.fault.MapFault.TheVariants as map_fault
use Rattle.pon_bwmap.proofs.OneMap.{one_head}
use Rattle.pon_lists.specs.Bytes.{AreBytes}
use Rattle.pon_link.specs.DownRecords.{IsDownRecord, KeepsDown, GivesDown}
use Rattle.pon_link.specs.Reading.{ReaderState, KeepsForm, IsWholeRecord, HasFault}
use Rattle.pon_link.specs.declared.direction.Direction.{Direction}
use Rattle.pon_link.specs.declared.direction.Direction.TheVariants.{Down}
use Rattle.pon_link.specs.declared.fault.LinkFault.{LinkFault}
use Rattle.pon_link.specs.declared.fault.LinkFault.TheVariants.{BadMap}
use Rattle.pon_link.specs.declared.fault.DownFault.{DownFault}
use Rattle.pon_link.specs.declared.fault.DownFault.TheVariants.{Link, Memory}
use Rattle.pon_lists.proofs.Bytes.{bytes-drop}

-- the fault of the form is the reader's, if the input has not ended
pub form_fault_shown : (s : ReaderState) (r : Option LinkFault) → s.ended ≡ false → MatchOption r (KeepsForm s.direction s.held) (λ f. HasFault (record { direction = s.direction; held = s.held; ended = false }) f) → MatchOption r (KeepsForm s.direction s.held × (s.ended ≡ false)) (λ f. HasFault s f)
form_fault_shown s None e m = (m, e)
form_fault_shown s (Some f) e m =
    let back : false ≡ s.ended = sym e in
    subst (λ (r : ReaderState). HasFault r f) (λ i. record { direction = s.direction; held = s.held; ended = back i }) m

-- the rest of a slice
rest_of : (bytes : List ℕ) → take (length bytes - 9) (drop 9 bytes) ≡ drop 9 bytes
rest_of bytes = between_to_end bytes 9 (length bytes) (omega arith)

-- a refused map is the reader's fault
pub refused_shown : (s : ReaderState) (bytes : List ℕ) (f : MapFault) → bytes ≡ s.held → s.direction ≡ Down → IsWholeRecord s.direction s.held → IsFirstMapFault (take (length bytes - 9) (drop 9 bytes)) f → f ≢ map_fault.Memory → HasFault s BadMap
refused_shown s bytes f is down whole first other =
    let here : IsFirstMapFault (drop 9 s.held) f = subst (λ (t : List ℕ). IsFirstMapFault (drop 9 t) f) is (subst (λ (t : List ℕ). IsFirstMapFault t f) (rest_of bytes) first) in
    (down, inr (subst (λ (d : Direction). IsWholeRecord d s.held) down whole, (f, here, other)))

-- a whole record's bytes, of which the map is read, are the record
pub down_record : (bytes : List ℕ) (frame : ℕ) (rows : List Alloc) (corrected used : ℕ) → AreBytes bytes → IsWholeRecord Down bytes → ReadsMap (take (length bytes - 9) (drop 9 bytes)) rows corrected used → from_be_bytes w64 (take 8 (drop 1 bytes)) ≡ frame → IsDownRecord bytes (record { frame = frame; map = rows })
down_record bytes frame rows corrected used small w read here =
    let r : ReadsMap (drop 9 bytes) rows corrected used = subst (λ (t : List ℕ). ReadsMap t rows corrected used) (rest_of bytes) read in
    let told = w.size in
    let same = one_head (drop 9 bytes) r.head told.0 r.in_head told.1 (bytes-drop 9 bytes small) r.reads_head.reads told.2 in
    let all : used ≡ 4 + 8 * length rows = omega (arith, r.used_is, r.reads_rows.counted, same.1, told.4) in
    record {
      size = omega (arith, told.5, same.0, r.reads_rows.counted);
      tag = w.form.tag (omega (arith, w.told));
      frame = here;
      corrected = corrected;
      map = subst (λ (k : ℕ). ReadsMap (drop 9 bytes) rows corrected k) all r;
    }

-- why a whole record's bytes have no record
pub down_fault : (bytes : List ℕ) (f : MapFault) (told : DownFault) → IsWholeRecord Down bytes → IsFirstMapFault (take (length bytes - 9) (drop 9 bytes)) f → ((f ≡ map_fault.Memory) × (told ≡ Memory)) ⊎ ((f ≢ map_fault.Memory) × (told ≡ Link BadMap)) → KeepsDown bytes told
down_fault bytes f told w first cases =
    let here : IsFirstMapFault (drop 9 bytes) f = subst (λ (t : List ℕ). IsFirstMapFault t f) (rest_of bytes) first in
    elim cases [
      | inl memory ↦ subst (λ (t : DownFault). KeepsDown bytes t) (sym memory.1) (w, subst (λ (g : MapFault). IsFirstMapFault (drop 9 bytes) g) memory.0 here)
      | inr other ↦ subst (λ (t : DownFault). KeepsDown bytes t) (sym other.1) (refl, (w, (f, here, other.0)))
    ]

-- a reader that returns no record is unchanged
pub down_kept : (s : ReaderState) (fault : DownFault) → s.direction ≡ Down → KeepsDown s.held fault → GivesDown s s (Err fault)
down_kept s (Link fault) down k = (subst (λ (f : LinkFault). HasFault s f) (sym k.0) (down, inr k.1), refl)
down_kept s Memory down k = (k, refl)
