-- Bytes read as at most one map, and bytes that read as a map have no fault.
use Rattle.std.proofs.Common.{◌≡◌, ℕ, zero, suc, ◌+◌, ◌*◌, ◌^◌, ◌<◌, ◌≤◌, Bool, true, false, List, [], ◌∷◌, ◌++◌, length, drop, All, Option, Some, None, IfSome, inl, inr, refl, ap, sym, ◌∙◌, subst, arith}
use Rattle.std.specs.Int.{w32, w64, from_be_bytes}
use Rattle.std.proofs.lemmas.List.{drop-drop}
use Rattle.pon_hec.proofs.Unique.{one_reading}
use Rattle.pon_lists.specs.Bytes.{AreBytes}
use Rattle.pon_lists.proofs.Bytes.{bytes-drop, bytes-from_All}
use Rattle.pon_xgtc.specs.HLend.{HLend, ReadsHLend}
use Rattle.pon_xgtc.proofs.HeaderReading.{one_header}
use Rattle.pon_bwmap.specs.Alloc.{Alloc}
use Rattle.pon_bwmap.specs.MapBytes.{flag_bit, start_field, structure_payload}
use Rattle.pon_bwmap.specs.MapRules.{row_fault}
use Rattle.pon_bwmap.specs.MapReading.{FitsStructure, ReadsStructure, ReadsRows, ReadsMap}
use Rattle.pon_bwmap.specs.MapFaults.{BreaksRule, IsFaultOfRows, IsFirstMapFault}
use Rattle.pon_bwmap.specs.declared.fault.MapFault.{MapFault}
use Rattle.pon_bwmap.specs.declared.fault.MapFault.TheVariants.{Short, HeadHec, TooMany, StructHec, SeriesStart, StartRange, SeriesLong, Memory}
use Rattle.pon_bwmap.proofs.ReadsBack.{flag_small, start_small}
use Rattle.pon_bwmap.proofs.RowReading.{fault-append}

-- ---- words

word_32 : (bytes : List ℕ) → AreBytes bytes → from_be_bytes w32 bytes < 2 ^ 32
word_32 bytes all = omega (arith, all 0, all 1, all 2, all 3)

word_64 : (bytes : List ℕ) → AreBytes bytes → from_be_bytes w64 bytes < 2 ^ 64
word_64 bytes all = omega (arith, all 0, all 1, all 2, all 3, all 4, all 5, all 6, all 7)

-- ---- one structure

same_flag : (a b : Bool) → flag_bit a ≡ flag_bit b → a ≡ b
same_flag true true e = refl
same_flag true false e = absurd (omega (arith, e))
same_flag false true e = absurd (omega (arith, e))
same_flag false false e = refl

same_start : (s t : Option ℕ) → IfSome s (λ x. x < 0xffff) → IfSome t (λ x. x < 0xffff) → start_field s ≡ start_field t → s ≡ t
same_start (Some x) (Some y) ls lt e = ap (λ (n : ℕ). Some n) e
same_start (Some x) None ls lt e = absurd (omega (arith, ls, e))
same_start None (Some y) ls lt e = absurd (omega (arith, lt, e))
same_start None None ls lt e = refl

same_structure : (a b : Alloc) → FitsStructure a → FitsStructure b → structure_payload a ≡ structure_payload b → a ≡ b
same_structure a b fa fb e =
    let ra : start_field a.start < 2 ^ 16 = omega (arith, start_small a.start fa.start) in
    let rb : start_field b.start < 2 ^ 16 = omega (arith, start_small b.start fb.start) in
    let id : a.id ≡ b.id = omega (arith, e, flag_small a.dbru, flag_small b.dbru, flag_small a.ploam, flag_small b.ploam, ra, rb, fa.grant, fb.grant, flag_small a.fwi, flag_small b.fwi, fa.profile, fb.profile) in
    let dbru : flag_bit a.dbru ≡ flag_bit b.dbru = omega (arith, e, id, flag_small a.ploam, flag_small b.ploam, ra, rb, fa.grant, fb.grant, flag_small a.fwi, flag_small b.fwi, fa.profile, fb.profile) in
    let ploam : flag_bit a.ploam ≡ flag_bit b.ploam = omega (arith, e, id, dbru, ra, rb, fa.grant, fb.grant, flag_small a.fwi, flag_small b.fwi, fa.profile, fb.profile) in
    let start : start_field a.start ≡ start_field b.start = omega (arith, e, id, dbru, ploam, fa.grant, fb.grant, flag_small a.fwi, flag_small b.fwi, fa.profile, fb.profile) in
    let grant : a.grant ≡ b.grant = omega (arith, e, id, dbru, ploam, start, flag_small a.fwi, flag_small b.fwi, fa.profile, fb.profile) in
    let fwi : flag_bit a.fwi ≡ flag_bit b.fwi = omega (arith, e, id, dbru, ploam, start, grant, fa.profile, fb.profile) in
    let profile : a.profile ≡ b.profile = omega (arith, e, id, dbru, ploam, start, grant, fwi) in
    let dbru_is : a.dbru ≡ b.dbru = same_flag a.dbru b.dbru dbru in
    let ploam_is : a.ploam ≡ b.ploam = same_flag a.ploam b.ploam ploam in
    let start_is : a.start ≡ b.start = same_start a.start b.start fa.start fb.start start in
    let fwi_is : a.fwi ≡ b.fwi = same_flag a.fwi b.fwi fwi in
    λ i. record { id = id i; dbru = dbru_is i; ploam = ploam_is i; start = start_is i; grant = grant i; fwi = fwi_is i; profile = profile i }

one_structure : (bytes : List ℕ) (a b : Alloc) (k l : ℕ) → AreBytes bytes → ReadsStructure bytes a k → ReadsStructure bytes b l → (a ≡ b) × (k ≡ l)
one_structure bytes a b k l all r s =
    let one = one_reading (2 ^ 64) (from_be_bytes w64 bytes) (structure_payload a) k (structure_payload b) l (omega arith) (word_64 bytes all) r.word s.word in
    (same_structure a b r.fits s.fits one.0, one.1)

-- ---- structures in a row

-- if two lists of structures read from the same bytes, the shorter one is a prefix of the longer one
pub first_rows : (bytes : List ℕ) (rows all : List Alloc) (k l : ℕ) → AreBytes bytes → ReadsRows bytes rows k → ReadsRows bytes all l → length rows ≤ length all → (more : List Alloc) × (all ≡ rows ++ more)
first_rows bytes [] all k l are r s le = (all, refl)
first_rows bytes (a ∷ rows) [] k l are r s le = absurd (omega (arith, le))
first_rows bytes (a ∷ rows) (b ∷ all) k l are r s le =
    let one = one_structure bytes b a s.0 r.0 are s.2 r.2 in
    let rest = first_rows (drop 8 bytes) rows all r.1 s.1 (bytes-drop 8 bytes are) r.3 s.3 (omega (arith, le)) in
    (rest.0, λ i. one.0 i ∷ rest.1 i)

pub one_rows : (bytes : List ℕ) (rows rows2 : List Alloc) (k l : ℕ) → AreBytes bytes → ReadsRows bytes rows k → ReadsRows bytes rows2 l → length rows ≡ length rows2 → (rows ≡ rows2) × (k ≡ l)
one_rows bytes [] [] k l are r s e = (refl, r ∙ sym s)
one_rows bytes [] (b ∷ rows2) k l are r s e = absurd (omega (arith, e))
one_rows bytes (a ∷ rows) [] k l are r s e = absurd (omega (arith, e))
one_rows bytes (a ∷ rows) (b ∷ rows2) k l are r s e =
    let one = one_structure bytes a b r.0 s.0 are r.2 s.2 in
    let rest = one_rows (drop 8 bytes) rows rows2 r.1 s.1 (bytes-drop 8 bytes are) r.3 s.3 (omega (arith, e)) in
    (λ i. one.0 i ∷ rest.0 i, omega (arith, r.4, s.4, one.1, rest.1))

-- the structure at an index
pub row_at : (bytes : List ℕ) (rows : List Alloc) (corrected k : ℕ) → ReadsRows bytes rows corrected → k < length rows → (a : Alloc) × (places : ℕ) × ReadsStructure (drop (8 * k) bytes) a places
row_at bytes [] corrected k r lt = absurd (omega (arith, lt))
row_at bytes (a ∷ rows) corrected zero r lt = (a, r.0, r.2)
row_at bytes (a ∷ rows) corrected (suc k) r lt =
    let at = row_at (drop 8 bytes) rows r.1 k r.3 (omega (arith, lt)) in
    let place : drop (8 * k) (drop 8 bytes) ≡ drop (8 * suc k) bytes = (let e : 8 * suc k ≡ 8 + 8 * k = omega arith in rw e (drop-drop (8 * k) 8 bytes)) in
    (at.0, at.1, subst (λ (bs : List ℕ). ReadsStructure bs at.0 at.1) place at.2)

-- ---- one map

pub one_head : (bytes : List ℕ) (h g : HLend) (k l : ℕ) → AreBytes bytes → ReadsHLend bytes h k → ReadsHLend bytes g l → (h.n ≡ g.n) × (h.p ≡ g.p) × (k ≡ l)
one_head bytes h g k l are r s =
    let one = one_header bytes (h.n * 2 ^ 8 + h.p) k (g.n * 2 ^ 8 + g.p) l (word_32 bytes are) r.header s.header in
    (omega (arith, one.0, r.fits.p, s.fits.p), omega (arith, one.0, r.fits.p, s.fits.p), one.1)

pub one_map : (bytes : List ℕ) (rows rows2 : List Alloc) (corrected corrected2 used used2 : ℕ) → All (λ b. b < 256) bytes → ReadsMap bytes rows corrected used → ReadsMap bytes rows2 corrected2 used2
    → (rows ≡ rows2) × (corrected ≡ corrected2) × (used ≡ used2)
one_map bytes rows rows2 corrected corrected2 used used2 all r s =
    let are = bytes-from_All bytes all in
    let head = one_head bytes r.head s.head r.in_head s.in_head are r.reads_head.reads s.reads_head.reads in
    let same = one_rows (drop 4 bytes) rows rows2 r.in_rows s.in_rows (bytes-drop 4 bytes are) r.reads_rows.reads s.reads_rows.reads (r.reads_rows.counted ∙ head.0 ∙ sym s.reads_rows.counted) in
    (same.0, omega (arith, r.corrected_is, s.corrected_is, head.2, same.1), omega (arith, r.used_is, s.used_is, head.0, head.1))

-- ---- no fault

no_break : (bytes : List ℕ) (rows : List Alloc) (corrected used k : ℕ) (fault : MapFault) → AreBytes bytes → (r : ReadsMap bytes rows corrected used) → k < r.head.n → BreaksRule (drop 4 bytes) k fault → ⊥
no_break bytes rows corrected used k fault are r lt b =
    let first = first_rows (drop 4 bytes) b.rows rows b.corrected r.in_rows (bytes-drop 4 bytes are) b.reads r.reads_rows.reads (omega (arith, b.counted, r.reads_rows.counted, lt)) in
    let here : row_fault rows k ≡ Some fault = ap (λ (rs : List Alloc). row_fault rs k) first.1 ∙ fault-append b.rows first.0 k (omega (arith, b.counted)) ∙ b.breaks in
    let none : row_fault rows k ≡ None = r.reads_rows.is_map.keep_rules k (omega (arith, r.reads_rows.counted, lt)) in
    let wrong : Some fault ≡ None = sym here ∙ none in
    absurd (cc)

breaks_no_map : (bytes : List ℕ) (rows : List Alloc) (corrected used k : ℕ) (fault : MapFault) (f : IsFaultOfRows bytes fault) → AreBytes bytes → ReadsMap bytes rows corrected used
    → (k < f.head.n) × BreaksRule (drop 4 bytes) k fault → ⊥
breaks_no_map bytes rows corrected used k fault f are r b =
    let head = one_head bytes r.head f.head r.in_head f.corrected are r.reads_head.reads f.reads_head.reads in
    no_break bytes rows corrected used k fault are r (omega (arith, b.0, head.0)) b.1

pub no_fault : (bytes : List ℕ) (rows : List Alloc) (corrected used : ℕ) (fault : MapFault) → All (λ b. b < 256) bytes → ReadsMap bytes rows corrected used → IsFirstMapFault bytes fault → fault ≡ Memory
no_fault bytes rows corrected used Short all r (inl short) = absurd (omega (arith, short, r.reads_head.reads.header.whole))
no_fault bytes rows corrected used Short all r (inr short) =
    let head = one_head bytes r.head short.0 r.in_head short.1 (bytes-from_All bytes all) r.reads_head.reads short.2 in
    absurd (omega (arith, short.4, r.reads_head.whole, head.0, head.1))
no_fault bytes rows corrected used HeadHec all r f = absurd (f.1 _ _ r.reads_head.reads.header.word)
no_fault bytes rows corrected used TooMany all r f =
    let head = one_head bytes r.head f.0 r.in_head f.1 (bytes-from_All bytes all) r.reads_head.reads f.2 in
    absurd (omega (arith, f.3, r.reads_head.count, head.0))
no_fault bytes rows corrected used (StructHec k) all r f =
    let head = one_head bytes r.head f.head r.in_head f.corrected (bytes-from_All bytes all) r.reads_head.reads f.reads_head.reads in
    let at = row_at (drop 4 bytes) rows r.in_rows k r.reads_rows.reads (omega (arith, f.in_rows.0, head.0, r.reads_rows.counted)) in
    absurd (f.in_rows.1.lost (structure_payload at.0) at.1 at.2.word)
no_fault bytes rows corrected used (SeriesStart k) all r f = absurd (breaks_no_map bytes rows corrected used k (SeriesStart k) f (bytes-from_All bytes all) r f.in_rows)
no_fault bytes rows corrected used (StartRange k) all r f = absurd (breaks_no_map bytes rows corrected used k (StartRange k) f (bytes-from_All bytes all) r f.in_rows)
no_fault bytes rows corrected used (SeriesLong k) all r f = absurd (breaks_no_map bytes rows corrected used k (SeriesLong k) f (bytes-from_All bytes all) r f.in_rows)
no_fault bytes rows corrected used Memory all r f = refl
