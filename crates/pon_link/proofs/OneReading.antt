-- Bytes have at most one reading as a record.
use Rattle.std.proofs.Common.{◌≡◌, ℕ, ◌+◌, ◌^◌, ◌<◌, ◌≤◌, List, [], ◌∷◌, ◌++◌, length, take, drop, get_or, Option, Some, None, refl, ap, sym, ◌∙◌, subst, length-append, arith}
use Rattle.std.specs.Int.{w32, from_be_bytes}
use Rattle.std.proofs.lemmas.List.{get_or_append_left, get_or-take, get_or-drop}
use Rattle.std.proofs.Math.Seq.{take-append_seam, drop-append_seam}
use Rattle.pon_dbru.proofs.ReportLaws.{words_are}
use Rattle.pon_xgtc.specs.BurstHead.{BurstHead}
use Rattle.pon_xgtc.specs.declared.fault.HeadFault.TheVariants.{Hec}
use Rattle.pon_xgtc.proofs.HeaderReading.{one_header, no_fault}
use Rattle.pon_link.specs.UpRecords.{IsRecord, ReadsHead, ReadsReport, ReadsReports}
use Rattle.pon_lists.specs.Bytes.{AreBytes}
use Rattle.pon_link.specs.declared.record.UpRecord.{UpRecord}

-- two splits of a list at one index are equal
pub same_cut : (a b x y : List ℕ) → length a ≡ length b → a ++ x ≡ b ++ y → (a ≡ b) × (x ≡ y)
same_cut a b x y long e = (
  sym (take-append_seam a x) ∙ ap (λ (t : List ℕ). take (length a) t) e ∙ ap (λ (n : ℕ). take n (b ++ y)) long ∙ take-append_seam b y,
  sym (drop-append_seam a x) ∙ ap (λ (t : List ℕ). drop (length a) t) e ∙ ap (λ (n : ℕ). drop n (b ++ y)) long ∙ drop-append_seam b y,
)

report_size : (bytes : List ℕ) (o : Option ℕ) → ReadsReport bytes o → length bytes ≡ 4
report_size bytes (Some words) r = ap (λ (t : List ℕ). length t) r.spelled
report_size bytes None r = r.0

pub one_report : (bytes : List ℕ) (o p : Option ℕ) → ReadsReport bytes o → ReadsReport bytes p → o ≡ p
one_report bytes (Some v) (Some w) r s = ap (λ (n : ℕ). Some n) (sym (words_are bytes v r) ∙ words_are bytes w s)
one_report bytes (Some v) None r s = absurd (s.1 v r)
one_report bytes None (Some w) r s = absurd (r.1 w s)
one_report bytes None None r s = refl

one_list : (bytes : List ℕ) (os ps : List (Option ℕ)) → ReadsReports bytes os → ReadsReports bytes ps → os ≡ ps
one_list bytes [] [] h k = refl
one_list bytes [] (p ∷ ps) h k =
    let size : length bytes ≡ length k.0 + length k.1 = ap (λ (t : List ℕ). length t) k.2 ∙ length-append k.0 k.1 in
    let none : length bytes ≡ 0 = ap (λ (t : List ℕ). length t) h in
    absurd (omega (arith, size, none, report_size k.0 p k.3))
one_list bytes (o ∷ os) [] h k =
    let size : length bytes ≡ length h.0 + length h.1 = ap (λ (t : List ℕ). length t) h.2 ∙ length-append h.0 h.1 in
    let none : length bytes ≡ 0 = ap (λ (t : List ℕ). length t) k in
    absurd (omega (arith, size, none, report_size h.0 o h.3))
one_list bytes (o ∷ os) (p ∷ ps) h k =
    let cut = same_cut h.0 k.0 h.1 k.1 (report_size h.0 o h.3 ∙ sym (report_size k.0 p k.3)) (sym h.2 ∙ k.2) in
    let first : o ≡ p = one_report k.0 o p (subst (λ (t : List ℕ). ReadsReport t o) cut.0 h.3) k.3 in
    let rest : os ≡ ps = one_list k.1 os ps (subst (λ (t : List ℕ). ReadsReports t os) cut.1 h.4) k.4 in
    λ i. first i ∷ rest i

one_head : (bytes : List ℕ) (a b : Option BurstHead) → from_be_bytes w32 bytes < 2 ^ 32 → ReadsHead bytes a → ReadsHead bytes b → a ≡ b
one_head bytes (Some g) (Some h) lt r s =
    let same = one_header bytes _ r.0 _ s.0 lt r.1.header s.1.header in
    let onu : g.onu_raw ≡ h.onu_raw = omega (arith, same.0, r.1.fits.ind, s.1.fits.ind) in
    let ind : g.ind ≡ h.ind = omega (arith, same.0, r.1.fits.ind, s.1.fits.ind) in
    λ i. Some (record { onu_raw = onu i; ind = ind i })
one_head bytes (Some g) None lt r s = absurd (no_fault bytes Hec _ r.0 r.1.header s)
one_head bytes None (Some h) lt r s = absurd (no_fault bytes Hec _ s.0 s.1.header r)
one_head bytes None None lt r s = refl

-- a byte of the burst header
head_byte : (bytes rest : List ℕ) (i : ℕ) → AreBytes (bytes ++ rest) → 14 ≤ length bytes → i < 4 → get_or (take 4 (drop 9 bytes)) i 0 < 256
head_byte bytes rest i small long lt =
    let place : get_or (take 4 (drop 9 bytes)) i 0 ≡ get_or bytes (9 + i) 0 = get_or-take 4 (drop 9 bytes) i 0 lt ∙ get_or-drop 9 bytes i 0 in
    let whole : get_or (bytes ++ rest) (9 + i) 0 ≡ get_or bytes (9 + i) 0 = get_or_append_left bytes rest 0 (9 + i) (omega (arith, long, lt)) in
    omega (arith, place, whole, small (9 + i))

-- the bytes of a record are only that record, whatever follows them
pub one_record : (bytes rest : List ℕ) (r s : UpRecord) → AreBytes (bytes ++ rest) → IsRecord bytes r → IsRecord bytes s → r ≡ s
one_record bytes rest r s small h k =
    let long : 14 ≤ length bytes = omega (arith, h.size) in
    let header = take 4 (drop 9 bytes) in
    let word : from_be_bytes w32 header < 2 ^ 32 = omega (
      arith,
      head_byte bytes rest 0 small long (omega arith),
      head_byte bytes rest 1 small long (omega arith),
      head_byte bytes rest 2 small long (omega arith),
      head_byte bytes rest 3 small long (omega arith),
    ) in
    let frame : r.frame ≡ s.frame = sym h.frame ∙ k.frame in
    let head : r.head ≡ s.head = one_head header r.head s.head word h.head k.head in
    let occ : r.occ ≡ s.occ = one_list (drop 14 bytes) r.occ s.occ h.reports k.reports in
    λ i. record { frame = frame i; head = head i; occ = occ i }
