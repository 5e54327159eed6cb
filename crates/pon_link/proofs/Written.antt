-- The written bytes are the record.
use Rattle.std.proofs.Common.{◌≡◌, ℕ, ◌+◌, ◌*◌, ◌^◌, ◌<◌, ◌≤◌, List, [], ◌∷◌, ◌++◌, length, take, drop, get_or, Option, Some, ap, sym, ◌∙◌, subst, arith}
use Rattle.std.specs.Int.{w64, to_be_bytes, from_be_bytes}
use Rattle.std.proofs.lemmas.Nat.{from_be_bytes-to_be_bytes_8}
use Rattle.std.proofs.lemmas.List.{take_more, drop-append-le, take-append-drop}
use Rattle.pon_units.specs.declared.limits.TheConstants.{MAX_SERIES}
use Rattle.pon_xgtc.specs.Header.{header_bytes}
use Rattle.pon_xgtc.specs.BurstHead.{BurstHead, FitsBurstHead, ReadsBurstHead, burst_head_payload}
use Rattle.pon_xgtc.proofs.HeaderReading.{header_reads}
use Rattle.pon_link.specs.UpRecords.{IsRecord, ReadsHead, ReadsReport, ReadsReports}
use Rattle.pon_link.specs.declared.record.UpRecord.{UpRecord}
use Rattle.pon_link.proofs.Reports.{reports_more}

-- one more report is written
pub report_written : (bytes report more : List ℕ) (os : List (Option ℕ)) (o : Option ℕ) (i : ℕ) → 14 ≤ length bytes → more ≡ bytes ++ report → i < length os → get_or os i o ≡ o → ReadsReports (drop 14 bytes) (take i os) → ReadsReport report o → ReadsReports (drop 14 more) (take (i + 1) os)
report_written bytes report more os o i long is lt here h r =
    let after : drop 14 bytes ++ report ≡ drop 14 more = sym (ap (λ (t : List ℕ). drop 14 t) is ∙ drop-append-le 14 bytes report long) in
    let grown : take i os ++ o ∷ [] ≡ take (i + 1) os = ap (λ (x : Option ℕ). take i os ++ x ∷ []) (sym here) ∙ sym (take_more os i o lt) in
    subst (λ (t : List (Option ℕ)). ReadsReports (drop 14 more) t) grown
    (subst (λ (t : List ℕ). ReadsReports t (take i os ++ o ∷ [])) after (reports_more (drop 14 bytes) report (take i os) o h r))

-- the first 14 bytes of a record
abbrev pub front : ℕ → BurstHead → ℕ → List ℕ
front frame h count = 0x55 ∷ (to_be_bytes w64 frame ++ header_bytes (burst_head_payload h) ++ count ∷ [])

head_written : (frame count : ℕ) (h : BurstHead) (rest : List ℕ) → FitsBurstHead h → ReadsBurstHead (take 4 (drop 9 (front frame h count ++ rest))) h 0
head_written frame count h rest fits = record { fits = fits; header = header_reads (burst_head_payload h) [] (omega (arith, fits.onu_raw, fits.ind)) }

pub record_written : (bytes : List ℕ) (r : UpRecord) (h : BurstHead) → FitsBurstHead h → r.frame < 2 ^ 64 → r.head ≡ Some h → length bytes ≡ 14 + 4 * length r.occ → 1 ≤ length r.occ → length r.occ ≤ MAX_SERIES → take 14 bytes ≡ front r.frame h (length r.occ) → ReadsReports (drop 14 bytes) r.occ → IsRecord bytes r
record_written bytes r h fits frame head size some limit is reports =
    let whole : front r.frame h (length r.occ) ++ drop 14 bytes ≡ bytes = ap (λ (t : List ℕ). t ++ drop 14 bytes) (sym is) ∙ take-append-drop 14 bytes in
    record {
      size = size;
      tag = ap (λ (t : List ℕ). get_or t 0 0) (sym whole);
      frame = ap (λ (t : List ℕ). from_be_bytes w64 (take 8 (drop 1 t))) (sym whole) ∙ from_be_bytes-to_be_bytes_8 r.frame frame;
      head = subst (λ (o : Option BurstHead). ReadsHead (take 4 (drop 9 bytes)) o) (sym head)
          (0, subst (λ (t : List ℕ). ReadsBurstHead (take 4 (drop 9 t)) h 0) whole (head_written r.frame (length r.occ) h (drop 14 bytes) fits));
      count = ap (λ (t : List ℕ). get_or t 13 0) (sym whole);
      some = some;
      limit = limit;
      reports = reports;
    }
