-- Bytes begin with at most one list of chapters, if the rest begins with no chapter.
use Rattle.std.proofs.Common.{◌≡◌, ℕ, ◌+◌, List, [], ◌∷◌, ◌++◌, length, take, drop, refl, sym, ap, subst, ◌∙◌, append_assoc, arith, inl, inr}
use Rattle.std.specs.Prelude.{Bool, map, true}
use Rattle.std.specs.List.{flat_map, AllByRecursion}
use Rattle.std.specs.Int.{w32, from_be_bytes, to_be_bytes}
use Rattle.std.proofs.lemmas.List.{append-nil, length-append, take_at}
use Rattle.std.proofs.lemmas.List.Concat.{flat_map-cons}
use Rattle.std.proofs.lemmas.Nat.{from_be_bytes-to_be_bytes_4}
use Rattle.pon_record.specs.declared.limits.TheConstants.{CHAPTER_TAG, MAGIC_BYTES}
use Rattle.pon_record.specs.declared.fault.ReadFault.{ReadFault}
use Rattle.pon_record.specs.declared.fault.ReadFault.TheVariants.{BadFormat, Truncated, Memory}
use Rattle.pon_record.specs.declared.version.Version.{Version}
use Rattle.pon_record.specs.Chapters.{Body, FitsChapter, IsCutShort, PlacedChapter, body_in, body_size, chapter_bytes, placed, tagged_body_in}
use Rattle.pon_record.specs.Recordings.{HasNoChapterAt, Holds, IsBadFormatOf, IsFaultIn, IsNoChapter, IsReadFaultOf, IsRecordingIn, IsRecordingOf, IsTruncatedOf, EndsInside, recording_bytes}
use Rattle.pon_record.proofs.Exact.{one_reading}
use Rattle.pon_record.proofs.ExactChapters.{exact_chapter}
use Rattle.pon_record.proofs.Magic.{drop_magic, holds_magic, one_version}
use Rattle.pon_record.proofs.Reading.{bodies, place}

-- no chapter begins the bytes
pub record BeginsWithNone (v : Version) (rest : List ℕ) : Type 0 where
  pub none : (b : Body) (after : List ℕ) → FitsChapter v b → rest ≡ chapter_bytes v b ++ after → ⊥

-- equal lists, and equal rests
pub record SameParts (bs cs : List Body) (x y : List ℕ) : Type 0 where
  pub list : bs ≡ cs
  pub rest : x ≡ y

-- equal chapters, and equal rests
pub record SameHold (whole whole2 : List PlacedChapter) (rest rest2 : List ℕ) : Type 0 where
  pub chapters : whole ≡ whole2
  pub left : rest ≡ rest2

module _ (v : Version) where
  pub chapter_length : (b : Body) → length (chapter_bytes v b) ≡ 5 + length ((body_in v).write b)
  chapter_length b = omega (arith, length-append (to_be_bytes w32 (length ((body_in v).write b))) ((body_in v).write b))

  -- the bytes of a chapter have the number of bytes of its body after the tag
  pub size_told : (b : Body) (after : List ℕ) → FitsChapter v b → body_size (chapter_bytes v b ++ after) ≡ length ((body_in v).write b)
  size_told b after fits =
      let size = length ((body_in v).write b) in
      let four : take 4 (to_be_bytes w32 size ++ ((body_in v).write b ++ after)) ≡ to_be_bytes w32 size = take_at (to_be_bytes w32 size) ((body_in v).write b ++ after) 4 refl in
      ap (λ (l : List ℕ). from_be_bytes w32 (take 4 l)) (append_assoc (to_be_bytes w32 size) ((body_in v).write b) after)
      ∙ ap (λ (l : List ℕ). from_be_bytes w32 l) four ∙ from_be_bytes-to_be_bytes_4 size fits.1.1

  pub cut_begins_none : (rest : List ℕ) → IsCutShort rest → BeginsWithNone v rest
  cut_begins_none rest cut = record {
    none = λ b after fits e.
        let short = cut.ends in
        let size : body_size rest ≡ length ((body_in v).write b) = ap body_size e ∙ size_told b after fits in
        absurd (omega (arith, short, size, ap (λ (l : List ℕ). length l) e, length-append (chapter_bytes v b) after, chapter_length b));
  }

  pub nothing_begins_none : BeginsWithNone v []
  nothing_begins_none = record {
    none = λ b after fits e. absurd (omega (arith, ap (λ (l : List ℕ). length l) e, length-append (chapter_bytes v b) after, chapter_length b));
  }

  pub other_begins_none : (rest : List ℕ) → IsNoChapter v rest → BeginsWithNone v rest
  other_begins_none rest none = record { none = none.other }

  -- ---- one list

  joined : (b : Body) (bs : List Body) (x : List ℕ) → flat_map (chapter_bytes v) (b ∷ bs) ++ x ≡ chapter_bytes v b ++ (flat_map (chapter_bytes v) bs ++ x)
  joined b bs x = ap (λ (l : List ℕ). l ++ x) (flat_map-cons (chapter_bytes v) b bs) ∙ append_assoc (chapter_bytes v b) (flat_map (chapter_bytes v) bs) x

  pub one_list : (bs cs : List Body) (x y : List ℕ) → AllByRecursion (FitsChapter v) bs → AllByRecursion (FitsChapter v) cs → BeginsWithNone v x → BeginsWithNone v y
      → flat_map (chapter_bytes v) bs ++ x ≡ flat_map (chapter_bytes v) cs ++ y → SameParts bs cs x y
  one_list [] [] x y f g h k e = record { list = refl; rest = e }
  one_list [] (c ∷ cs) x y f g h k e = absurd (h.none c (flat_map (chapter_bytes v) cs ++ y) g.0 (e ∙ joined c cs y))
  one_list (b ∷ bs) [] x y f g h k e = absurd (k.none b (flat_map (chapter_bytes v) bs ++ x) f.0 (sym e ∙ joined b bs x))
  one_list (b ∷ bs) (c ∷ cs) x y f g h k e =
      let p = one_reading (tagged_body_in v) (exact_chapter v) (CHAPTER_TAG, b) (CHAPTER_TAG, c) (flat_map (chapter_bytes v) bs ++ x) (flat_map (chapter_bytes v) cs ++ y) f.0 g.0 (sym (joined b bs x) ∙ e ∙ joined c cs y) in
      let rest = one_list bs cs x y f.1 g.1 h k p.1 in
      record { list = λ i. (p.0 i).1 ∷ rest.list i; rest = rest.rest }

  pub one_hold : (bytes : List ℕ) (whole whole2 : List PlacedChapter) (rest rest2 : List ℕ) → Holds v bytes whole rest → Holds v bytes whole2 rest2 → BeginsWithNone v rest → BeginsWithNone v rest2 → SameHold whole whole2 rest rest2
  one_hold bytes whole whole2 rest rest2 h k none none2 =
      let parts : flat_map (chapter_bytes v) (bodies whole) ++ rest ≡ flat_map (chapter_bytes v) (bodies whole2) ++ rest2 = sym (drop_magic v (bodies whole) rest) ∙ ap (λ (l : List ℕ). drop 8 l) (sym h.parts ∙ k.parts) ∙ drop_magic v (bodies whole2) rest2 in
      let same = one_list (bodies whole) (bodies whole2) rest rest2 h.fit k.fit none none2 parts in
      record { chapters = h.places ∙ ap (placed v 8) same.list ∙ sym k.places; left = same.rest }

-- ---- the versions that a reader accepts

pub one_recording : (versions : Version → Bool) (bytes : List ℕ) (cs ds : List PlacedChapter) → IsRecordingOf versions bytes cs → IsRecordingOf versions bytes ds → cs ≡ ds
one_recording versions bytes cs ds (v, of, h) (w, also, k) =
    let same = one_version v w bytes cs ds [] [] h k in
    (one_hold w bytes cs ds [] [] (subst (λ x. Holds x bytes cs []) same h) k (nothing_begins_none w) (nothing_begins_none w)).chapters

-- a recording does not end inside a chapter
pub not_cut_inside : (v : Version) (bytes : List ℕ) (cs : List PlacedChapter) (at : ℕ) (whole : List PlacedChapter) → IsRecordingIn v bytes cs → EndsInside v bytes at whole → ⊥
not_cut_inside v bytes cs at whole h e =
    let same = one_hold v bytes cs whole [] e.rest h e.holds (nothing_begins_none v) (cut_begins_none v e.rest e.cut) in
    absurd (omega (arith, e.cut.more, ap (λ (l : List ℕ). length l) same.left))

-- a recording has no fault
pub no_truncated : (versions : Version → Bool) (bytes : List ℕ) (cs : List PlacedChapter) (at : ℕ) (whole : List PlacedChapter) → IsRecordingOf versions bytes cs → IsTruncatedOf versions bytes at whole → ⊥
no_truncated versions bytes cs at whole (v, of, h) (inl short) = absurd (omega (arith, short.0, place v bytes [] cs h))
no_truncated versions bytes cs at whole (v, of, h) (inr (w, also, e)) =
    not_cut_inside w bytes cs at whole (subst (λ x. Holds x bytes cs []) (one_version v w bytes cs whole [] e.rest h e.holds) h) e

pub no_bad_format : (versions : Version → Bool) (bytes : List ℕ) (cs : List PlacedChapter) (at : ℕ) → IsRecordingOf versions bytes cs → IsBadFormatOf versions bytes at → ⊥
no_bad_format versions bytes cs at (v, of, h) (inl other) = other.0.other v of (holds_magic v bytes cs [] h)
no_bad_format versions bytes cs at (v, of, h) (inr (w, also, e)) =
    let there = subst (λ x. Holds x bytes cs []) (one_version v w bytes cs e.whole [] e.rest h e.holds) h in
    let same = one_hold w bytes cs e.whole [] e.rest there e.holds (nothing_begins_none w) (other_begins_none w e.rest e.none) in
    e.none.more (sym same.left)

-- truncated bytes have one fault
both_cut : (v : Version) (bytes : List ℕ) (at at2 : ℕ) (whole whole2 : List PlacedChapter) → EndsInside v bytes at whole → EndsInside v bytes at2 whole2 → Truncated at whole ≡ Truncated at2 whole2
both_cut v bytes at at2 whole whole2 e f =
    let same = one_hold v bytes whole whole2 e.rest f.rest e.holds f.holds (cut_begins_none v e.rest e.cut) (cut_begins_none v f.rest f.cut) in
    let place : at ≡ at2 = omega (arith, e.there, f.there, ap (λ (l : List ℕ). length l) same.left) in
    λ i. Truncated (place i) (same.chapters i)

both_truncated : (versions : Version → Bool) (bytes : List ℕ) (at at2 : ℕ) (whole whole2 : List PlacedChapter) → IsTruncatedOf versions bytes at whole → IsTruncatedOf versions bytes at2 whole2 → Truncated at whole ≡ Truncated at2 whole2
both_truncated versions bytes at at2 whole whole2 (inl a) (inl b) = λ i. Truncated ((a.1 ∙ sym b.1) i) ((a.2 ∙ sym b.2) i)
both_truncated versions bytes at at2 whole whole2 (inl a) (inr (w, also, e)) = absurd (omega (arith, a.0, place w bytes e.rest whole2 e.holds))
both_truncated versions bytes at at2 whole whole2 (inr (v, of, e)) (inl b) = absurd (omega (arith, b.0, place v bytes e.rest whole e.holds))
both_truncated versions bytes at at2 whole whole2 (inr (v, of, e)) (inr (w, also, f)) =
    let same = one_version v w bytes whole whole2 e.rest f.rest e.holds f.holds in
    both_cut w bytes at at2 whole whole2 (subst (λ x. EndsInside x bytes at whole) same e) f

both_none : (v : Version) (bytes : List ℕ) (at at2 : ℕ) → HasNoChapterAt v bytes at → HasNoChapterAt v bytes at2 → BadFormat at ≡ BadFormat at2
both_none v bytes at at2 e f =
    let same = one_hold v bytes e.whole f.whole e.rest f.rest e.holds f.holds (other_begins_none v e.rest e.none) (other_begins_none v f.rest f.none) in
    let place : at ≡ at2 = omega (arith, e.there, f.there, ap (λ (l : List ℕ). length l) same.left) in
    λ i. BadFormat (place i)

both_bad : (versions : Version → Bool) (bytes : List ℕ) (at at2 : ℕ) → IsBadFormatOf versions bytes at → IsBadFormatOf versions bytes at2 → BadFormat at ≡ BadFormat at2
both_bad versions bytes at at2 (inl a) (inl b) = λ i. BadFormat ((a.1 ∙ sym b.1) i)
both_bad versions bytes at at2 (inl a) (inr (w, also, e)) = absurd (a.0.other w also (holds_magic w bytes e.whole e.rest e.holds))
both_bad versions bytes at at2 (inr (v, of, e)) (inl b) = absurd (b.0.other v of (holds_magic v bytes e.whole e.rest e.holds))
both_bad versions bytes at at2 (inr (v, of, e)) (inr (w, also, f)) =
    let same = one_version v w bytes e.whole f.whole e.rest f.rest e.holds f.holds in
    both_none w bytes at at2 (subst (λ x. HasNoChapterAt x bytes at) same e) f

not_cut : (v : Version) (bytes : List ℕ) (at at2 : ℕ) (whole : List PlacedChapter) → EndsInside v bytes at whole → HasNoChapterAt v bytes at2 → ⊥
not_cut v bytes at at2 whole e f =
    let same = one_hold v bytes whole f.whole e.rest f.rest e.holds f.holds (cut_begins_none v e.rest e.cut) (other_begins_none v f.rest f.none) in
    f.none.ends (subst IsCutShort same.left e.cut)

not_both : (versions : Version → Bool) (bytes : List ℕ) (at at2 : ℕ) (whole : List PlacedChapter) → IsTruncatedOf versions bytes at whole → IsBadFormatOf versions bytes at2 → ⊥
not_both versions bytes at at2 whole (inl a) (inl b) = absurd (omega (arith, a.0, b.0.long))
not_both versions bytes at at2 whole (inl a) (inr (w, also, e)) = absurd (omega (arith, a.0, place w bytes e.rest e.whole e.holds))
not_both versions bytes at at2 whole (inr (v, of, e)) (inl b) = b.0.other v of (holds_magic v bytes whole e.rest e.holds)
not_both versions bytes at at2 whole (inr (v, of, e)) (inr (w, also, f)) =
    let same = one_version v w bytes whole f.whole e.rest f.rest e.holds f.holds in
    not_cut w bytes at at2 whole (subst (λ x. EndsInside x bytes at whole) same e) f

pub one_fault : (versions : Version → Bool) (bytes : List ℕ) (f g : ReadFault) → IsReadFaultOf versions bytes f → IsReadFaultOf versions bytes g → (f ≡ Memory → ⊥) → (g ≡ Memory → ⊥) → f ≡ g
one_fault versions bytes (BadFormat at) (BadFormat at2) a b m n = both_bad versions bytes at at2 a b
one_fault versions bytes (BadFormat at) (Truncated at2 whole) a b m n = absurd (not_both versions bytes at2 at whole b a)
one_fault versions bytes (Truncated at whole) (BadFormat at2) a b m n = absurd (not_both versions bytes at at2 whole a b)
one_fault versions bytes (Truncated at whole) (Truncated at2 whole2) a b m n = both_truncated versions bytes at at2 whole whole2 a b
one_fault versions bytes Memory g a b m n = absurd (m refl)
one_fault versions bytes (BadFormat at) Memory a b m n = absurd (n refl)
one_fault versions bytes (Truncated at whole) Memory a b m n = absurd (n refl)

-- a fault after the magic bytes of a version that is accepted
pub fault_of_version : (versions : Version → Bool) (v : Version) (bytes : List ℕ) (f : ReadFault) → versions v ≡ true → IsFaultIn v bytes f → IsReadFaultOf versions bytes f
fault_of_version versions v bytes (BadFormat at) of h = inr (v, of, h)
fault_of_version versions v bytes (Truncated at whole) of h = inr (v, of, h)
fault_of_version versions v bytes Memory of h = (v, of, h)

-- ---- what is written

module _ (v : Version) where
  pub written : (bs : List Body) (at : ℕ) → map (λ (c : PlacedChapter). c.body) (placed v at bs) ≡ bs
  written [] at = refl
  written (b ∷ bs) at = ap (λ (l : List Body). b ∷ l) (written bs (at + length (chapter_bytes v b)))

  pub written_is_read : (bs : List Body) → AllByRecursion (FitsChapter v) bs → IsRecordingIn v (recording_bytes v bs) (placed v MAGIC_BYTES bs)
  written_is_read bs fit =
      let list = written bs MAGIC_BYTES in
      record {
        parts = sym (append-nil (recording_bytes v bs)) ∙ ap (λ (l : List Body). recording_bytes v l ++ []) (sym list);
        fit = subst (AllByRecursion (FitsChapter v)) (sym list) fit;
        places = ap (placed v MAGIC_BYTES) (sym list);
      }
