-- Bytes have at most one first fault as a map.
use Rattle.std.proofs.Common.{◌≡◌, ℕ, ◌<◌, ◌≤◌, List, length, drop, All, Some, None, inl, inr, refl, ap, sym, ◌∙◌, subst, arith}
use Rattle.std.proofs.lemmas.Bool.{cases_lt}
use Rattle.pon_units.specs.declared.limits.TheConstants.{MAX_STRUCTURES}
use Rattle.pon_lists.specs.Bytes.{AreBytes}
use Rattle.pon_lists.proofs.Bytes.{bytes-drop, bytes-from_All}
use Rattle.pon_xgtc.specs.Header.{IsHeaderFault}
use Rattle.pon_xgtc.specs.HLend.{HLend, ReadsHLend}
use Rattle.pon_xgtc.specs.declared.fault.HeadFault.TheVariants.{Hec}
use Rattle.pon_bwmap.specs.Alloc.{Alloc}
use Rattle.pon_bwmap.specs.MapBytes.{structure_payload}
use Rattle.pon_bwmap.specs.MapRules.{row_fault}
use Rattle.pon_bwmap.specs.MapReading.{ReadsRows, ReadsMapRows, map_size}
use Rattle.pon_bwmap.specs.MapFaults.{LosesStructure, BreaksRule, IsRowsFirstFault, IsFaultOfRows, IsFirstMapFault}
use Rattle.pon_bwmap.specs.declared.fault.MapFault.{MapFault}
use Rattle.pon_bwmap.specs.declared.fault.MapFault.TheVariants.{Short, HeadHec, TooMany, StructHec, SeriesStart, StartRange, SeriesLong, Memory}
use Rattle.pon_bwmap.proofs.OneMap.{first_rows, one_rows, row_at, one_head}
use Rattle.pon_bwmap.proofs.RowReading.{fault-append}

-- ---- the structures

-- the outcomes of reading the structures: one is lost, one breaks a rule, or all are read
pub data RowsEnd (bytes : List ℕ) (count : ℕ) (f : MapFault) : Type 0 where
  Lost : (k : ℕ) → k < count → LosesStructure bytes k → f ≡ StructHec k → RowsEnd bytes count f
  Broken : (k : ℕ) → k < count → BreaksRule bytes k f → RowsEnd bytes count f
  Read : (rows : List Alloc) (corrected : ℕ) → ReadsMapRows bytes count rows corrected → f ≡ Memory → RowsEnd bytes count f

rows_end : (bytes : List ℕ) (count : ℕ) (f : MapFault) → IsRowsFirstFault bytes count f → RowsEnd bytes count f
rows_end bytes count (StructHec k) h = Lost k h.0 h.1 refl
rows_end bytes count (SeriesStart k) h = Broken k h.0 h.1
rows_end bytes count (StartRange k) h = Broken k h.0 h.1
rows_end bytes count (SeriesLong k) h = Broken k h.0 h.1
rows_end bytes count Memory h = Read h.0 h.1 h.2 refl
rows_end bytes count Short h = absurd h
rows_end bytes count HeadHec h = absurd h
rows_end bytes count TooMany h = absurd h

-- a structure that reads is not lost
not_lost : (bytes : List ℕ) (rows : List Alloc) (corrected k : ℕ) → ReadsRows bytes rows corrected → k < length rows → LosesStructure bytes k → ⊥
not_lost bytes rows corrected k r lt l = let at = row_at bytes rows corrected k r lt in l.lost (structure_payload at.0) at.1 at.2.word

-- a structure that keeps the rules does not break one
not_broken : (bytes : List ℕ) (rows : List Alloc) (corrected k : ℕ) (fault : MapFault) → AreBytes bytes → ReadsRows bytes rows corrected → k < length rows → row_fault rows k ≡ None → BreaksRule bytes k fault → ⊥
not_broken bytes rows corrected k fault are r lt none b =
    let first = first_rows bytes b.rows rows b.corrected corrected are b.reads r (omega (arith, b.counted, lt)) in
    let here : row_fault rows k ≡ Some fault = ap (λ (rs : List Alloc). row_fault rs k) first.1 ∙ fault-append b.rows first.0 k (omega (arith, b.counted)) ∙ b.breaks in
    let wrong : Some fault ≡ None = sym here ∙ none in
    absurd (cc)

lost_lost : (bytes : List ℕ) (k l : ℕ) → LosesStructure bytes k → LosesStructure bytes l → k < l → ⊥
lost_lost bytes k l a b lt = not_lost bytes b.rows b.corrected k b.reads (omega (arith, b.counted, lt)) a

lost_broken : (bytes : List ℕ) (k l : ℕ) (g : MapFault) → AreBytes bytes → LosesStructure bytes k → BreaksRule bytes l g → ⊥
lost_broken bytes k l g are a b = elim (cases_lt l k) [
  | inl lt ↦ not_broken bytes a.rows a.corrected l g are a.reads (omega (arith, a.counted, lt)) (a.keep l lt) b
  | inr ge ↦ not_lost bytes b.rows b.corrected k b.reads (omega (arith, b.counted, ge)) a
]

broken_broken : (bytes : List ℕ) (k l : ℕ) (f g : MapFault) → AreBytes bytes → BreaksRule bytes k f → BreaksRule bytes l g → k < l → ⊥
broken_broken bytes k l f g are a b lt = not_broken bytes b.rows b.corrected k f are b.reads (omega (arith, b.counted, lt)) (b.keep k lt) a

same_break : (bytes : List ℕ) (k l : ℕ) (f g : MapFault) → AreBytes bytes → BreaksRule bytes k f → BreaksRule bytes l g → k ≡ l → f ≡ g
same_break bytes k l f g are a b e =
    let rows = one_rows bytes a.rows b.rows a.corrected b.corrected are a.reads b.reads (omega (arith, a.counted, b.counted, e)) in
    let both : Some f ≡ Some g = sym a.breaks ∙ ap (λ (rs : List Alloc). row_fault rs k) rows.0 ∙ ap (λ (i : ℕ). row_fault b.rows i) e ∙ b.breaks in
    cc

read_lost : (bytes : List ℕ) (count k : ℕ) (rows : List Alloc) (corrected : ℕ) → ReadsMapRows bytes count rows corrected → k < count → LosesStructure bytes k → ⊥
read_lost bytes count k rows corrected r lt l = not_lost bytes rows corrected k r.reads (omega (arith, r.counted, lt)) l

read_broken : (bytes : List ℕ) (count k : ℕ) (f : MapFault) (rows : List Alloc) (corrected : ℕ) → AreBytes bytes → ReadsMapRows bytes count rows corrected → k < count → BreaksRule bytes k f → ⊥
read_broken bytes count k f rows corrected are r lt b = not_broken bytes rows corrected k f are r.reads (omega (arith, r.counted, lt)) (r.is_map.keep_rules k (omega (arith, r.counted, lt))) b

one_end : (bytes : List ℕ) (count : ℕ) (f g : MapFault) → AreBytes bytes → RowsEnd bytes count f → RowsEnd bytes count g → f ≡ g
one_end bytes count f g are (Lost k lt a e) (Lost l le b e2) = elim (cases_lt k l) [
  | inl less ↦ absurd (lost_lost bytes k l a b less)
  | inr ge ↦ elim (cases_lt l k) [
    | inl more ↦ absurd (lost_lost bytes l k b a more)
    | inr le2 ↦ let same : k ≡ l = omega (arith, ge, le2) in e ∙ ap (λ (i : ℕ). StructHec i) same ∙ sym e2
  ]
]
one_end bytes count f g are (Lost k lt a e) (Broken l le b) = absurd (lost_broken bytes k l g are a b)
one_end bytes count f g are (Lost k lt a e) (Read rows corrected r e2) = absurd (read_lost bytes count k rows corrected r lt a)
one_end bytes count f g are (Broken k lt a) (Lost l le b e2) = absurd (lost_broken bytes l k f are b a)
one_end bytes count f g are (Broken k lt a) (Broken l le b) = elim (cases_lt k l) [
  | inl less ↦ absurd (broken_broken bytes k l f g are a b less)
  | inr ge ↦ elim (cases_lt l k) [
    | inl more ↦ absurd (broken_broken bytes l k g f are b a more)
    | inr le2 ↦ same_break bytes k l f g are a b (omega (arith, ge, le2))
  ]
]
one_end bytes count f g are (Broken k lt a) (Read rows corrected r e2) = absurd (read_broken bytes count k f rows corrected are r lt a)
one_end bytes count f g are (Read rows corrected r e) (Lost l le b e2) = absurd (read_lost bytes count l rows corrected r le b)
one_end bytes count f g are (Read rows corrected r e) (Broken l le b) = absurd (read_broken bytes count l g rows corrected are r le b)
one_end bytes count f g are (Read rows corrected r e) (Read rows2 corrected2 r2 e2) = e ∙ sym e2

-- ---- the whole map

-- the outcomes after the head: too many structures, too few bytes, or a fault of the structures
pub data HeadEnd (bytes : List ℕ) (head : HLend) (f : MapFault) : Type 0 where
  Many : MAX_STRUCTURES < head.n → f ≡ TooMany → HeadEnd bytes head f
  Cut : head.n ≤ MAX_STRUCTURES → length bytes < map_size head → f ≡ Short → HeadEnd bytes head f
  Rows : head.n ≤ MAX_STRUCTURES → map_size head ≤ length bytes → IsRowsFirstFault (drop 4 bytes) head.n f → HeadEnd bytes head f

-- the outcomes of reading a map: no whole head, a head that is lost, or a head that reads
pub data MapEnd (bytes : List ℕ) (f : MapFault) : Type 0 where
  NoHead : length bytes < 4 → f ≡ Short → MapEnd bytes f
  LostHead : IsHeaderFault bytes Hec → f ≡ HeadHec → MapEnd bytes f
  Head : (head : HLend) (corrected : ℕ) → ReadsHLend bytes head corrected → HeadEnd bytes head f → MapEnd bytes f

of_rows : (bytes : List ℕ) (f : MapFault) → IsFaultOfRows bytes f → MapEnd bytes f
of_rows bytes f h = Head h.head h.corrected h.reads_head.reads (Rows h.reads_head.count h.reads_head.whole h.in_rows)

map_end : (bytes : List ℕ) (f : MapFault) → IsFirstMapFault bytes f → MapEnd bytes f
map_end bytes Short (inl short) = NoHead short refl
map_end bytes Short (inr cut) = Head cut.0 cut.1 cut.2 (Cut cut.3 cut.4 refl)
map_end bytes HeadHec h = LostHead h refl
map_end bytes TooMany h = Head h.0 h.1 h.2 (Many h.3 refl)
map_end bytes (StructHec k) h = of_rows bytes (StructHec k) h
map_end bytes (SeriesStart k) h = of_rows bytes (SeriesStart k) h
map_end bytes (StartRange k) h = of_rows bytes (StartRange k) h
map_end bytes (SeriesLong k) h = of_rows bytes (SeriesLong k) h
map_end bytes Memory h = of_rows bytes Memory h

one_head_end : (bytes : List ℕ) (h i : HLend) (f g : MapFault) → AreBytes bytes → h.n ≡ i.n → h.p ≡ i.p → HeadEnd bytes h f → HeadEnd bytes i g → f ≡ g
one_head_end bytes h i f g are n p (Many a e) (Many b e2) = e ∙ sym e2
one_head_end bytes h i f g are n p (Many a e) (Cut b c e2) = absurd (omega (arith, a, b, n))
one_head_end bytes h i f g are n p (Many a e) (Rows b c r) = absurd (omega (arith, a, b, n))
one_head_end bytes h i f g are n p (Cut a b e) (Many c e2) = absurd (omega (arith, a, c, n))
one_head_end bytes h i f g are n p (Cut a b e) (Cut c d e2) = e ∙ sym e2
one_head_end bytes h i f g are n p (Cut a b e) (Rows c d r) = absurd (omega (arith, b, d, n, p))
one_head_end bytes h i f g are n p (Rows a b r) (Many c e2) = absurd (omega (arith, a, c, n))
one_head_end bytes h i f g are n p (Rows a b r) (Cut c d e2) = absurd (omega (arith, b, d, n, p))
one_head_end bytes h i f g are n p (Rows a b r) (Rows c d s) =
    let here = subst (λ (count : ℕ). IsRowsFirstFault (drop 4 bytes) count f) n r in
    one_end (drop 4 bytes) i.n f g (bytes-drop 4 bytes are) (rows_end (drop 4 bytes) i.n f here) (rows_end (drop 4 bytes) i.n g s)

one_map_end : (bytes : List ℕ) (f g : MapFault) → AreBytes bytes → MapEnd bytes f → MapEnd bytes g → f ≡ g
one_map_end bytes f g are (NoHead a e) (NoHead b e2) = e ∙ sym e2
one_map_end bytes f g are (NoHead a e) (LostHead b e2) = absurd (omega (arith, a, b.0))
one_map_end bytes f g are (NoHead a e) (Head h k r s) = absurd (omega (arith, a, r.header.whole))
one_map_end bytes f g are (LostHead a e) (NoHead b e2) = absurd (omega (arith, b, a.0))
one_map_end bytes f g are (LostHead a e) (LostHead b e2) = e ∙ sym e2
one_map_end bytes f g are (LostHead a e) (Head h k r s) = absurd (a.1 _ _ r.header.word)
one_map_end bytes f g are (Head h k r s) (NoHead b e2) = absurd (omega (arith, b, r.header.whole))
one_map_end bytes f g are (Head h k r s) (LostHead b e2) = absurd (b.1 _ _ r.header.word)
one_map_end bytes f g are (Head h k r s) (Head h2 k2 r2 s2) =
    let same = one_head bytes h h2 k k2 are r r2 in
    one_head_end bytes h h2 f g are same.0 same.1 s s2

pub one_fault : (bytes : List ℕ) (f g : MapFault) → All (λ b. b < 256) bytes → IsFirstMapFault bytes f → IsFirstMapFault bytes g → f ≡ g
one_fault bytes f g all a b = one_map_end bytes f g (bytes-from_All bytes all) (map_end bytes f a) (map_end bytes g b)
