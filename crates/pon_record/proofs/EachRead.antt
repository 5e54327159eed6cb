-- Bytes are a recording, or have a fault.
use Rattle.std.proofs.Common.{◌≡◌, ℕ, zero, suc, ◌+◌, ◌-◌, ◌<◌, ◌≤◌, Bool, true, false, List, [], ◌∷◌, ◌++◌, length, take, drop, Option, Some, None, refl, ap, sym, ◌∙◌, arith, inl, inr}
use Rattle.std.specs.Prelude.{◌≢◌, ◌⊎◌, ◌==◌, slice_index}
use Rattle.std.proofs.lemmas.Bool.{cases_Bool, cases_eq, cases_lt, eqb-true}
use Rattle.std.proofs.lemmas.List.{drop_at, length-append, length-drop}
use Rattle.pon_lists.specs.Bytes.{AreBytes}
use Rattle.pon_record.specs.declared.limits.TheConstants.{CHAPTER_TAG}
use Rattle.pon_record.specs.declared.fault.ReadFault.{ReadFault}
use Rattle.pon_record.specs.declared.fault.ReadFault.TheVariants.{BadFormat, Truncated, Memory}
use Rattle.pon_record.specs.declared.version.Version.{Version}
use Rattle.pon_record.specs.declared.version.Version.TheVariants.{One, Two}
use Rattle.pon_record.specs.Chapters.{Body, IsCutShort, PlacedChapter, body_size, chapter_bytes, tagged_body_in}
use Rattle.pon_record.specs.ChapterReading.{BeginsWith}
use Rattle.pon_record.specs.Recordings.{Holds, IsFaultIn, IsRead, IsRecordingIn, magic, recording_bytes}
use Rattle.pon_record.proofs.Exact.{passed, rest_fits}
use Rattle.pon_record.proofs.ExactChapters.{exact_chapter}
use Rattle.pon_record.proofs.OneReading.{chapter_length, fault_of_version}
use Rattle.pon_record.proofs.Reading.{bodies, holds_more, holds_none, no_chapter, no_chapter_at, place}

-- the bytes are a recording of the version, or have a fault after its magic bytes
abbrev Ends : Version → List ℕ → Type 0
Ends v bytes = ((chapters : List PlacedChapter) × IsRecordingIn v bytes chapters) ⊎ ((fault : ReadFault) × (fault ≢ Memory) × IsFaultIn v bytes fault)

-- one more chapter is read
record GoesFurther (v : Version) (bytes rest : List ℕ) : Type 0 where
  after : List ℕ
  chapters : List PlacedChapter
  less : length after < length rest
  holds : Holds v bytes chapters after

module _ (v : Version) (bytes : List ℕ) (are : AreBytes bytes) (rest : List ℕ) (whole : List PlacedChapter) (some : 0 < length rest) (h : Holds v bytes whole rest) where
  abbrev here : ℕ
  here = length bytes - length rest

  further : (body : Body) (after : List ℕ) → (tagged_body_in v).read rest ≡ Some ((CHAPTER_TAG, body), after) → GoesFurther v bytes rest
  further body after e =
      let size : ℕ = length (chapter_bytes v body) in
      let read = (exact_chapter v).takes rest (CHAPTER_TAG, body) after (rest_fits (recording_bytes v (bodies whole)) rest bytes h.parts are) e in
      let dropped : drop size rest ≡ after = ap (drop size) read.1 ∙ drop_at (chapter_bytes v body) after size refl in
      let long : length rest ≡ size + length after = ap (λ (l : List ℕ). length l) read.1 ∙ length-append (chapter_bytes v body) after in
      let begins : BeginsWith v rest here (record { at = here; body = body }) size = record {
        place = refl;
        some = omega (arith, chapter_length v body);
        within = omega (arith, long);
        read = e ∙ (λ i. Some ((CHAPTER_TAG, body), sym dropped i));
      } in
      record {
        after = drop size rest;
        chapters = whole ++ record { at = here; body = body } ∷ [];
        less = omega (arith, some, length-drop size rest, chapter_length v body);
        holds = holds_more v bytes rest whole (record { at = here; body = body }) here size are h refl begins;
      }

  cut_here : IsCutShort rest → Ends v bytes
  cut_here cut = inr (Truncated here whole, (λ e. absurd cc), record { rest = rest; holds = h; cut = cut; there = omega (arith, place v bytes rest whole h) })

  none_here : (tagged_body_in v).read rest ≡ None → (IsCutShort rest → ⊥) → Ends v bytes
  none_here e uncut = inr (BadFormat here, (λ e. absurd cc), no_chapter_at v bytes rest whole h (no_chapter v rest some e uncut))

  ends_here : (tagged_body_in v).read rest ≡ None → Ends v bytes
  ends_here e = elim (cases_eq (slice_index rest 0) CHAPTER_TAG) [
    | inl tag ↦ elim (cases_lt (length rest) (5 + body_size rest)) [
      | inl short ↦ cut_here (record { more = some; tag = tag; ends = short })
      | inr long ↦ none_here e (λ cut. absurd (let ends = cut.ends in omega (arith, ends, long)))
    ]
    | inr other ↦ none_here e (λ cut. other cut.tag)
  ]

  one_step : Ends v bytes ⊎ GoesFurther v bytes rest
  one_step = go ((tagged_body_in v).read rest) refl
    where
      go : (r : Option ((ℕ × Body) × List ℕ)) → (tagged_body_in v).read rest ≡ r → Ends v bytes ⊎ GoesFurther v bytes rest
      go None e = inl (ends_here e)
      go (Some x) e =
          let read = (exact_chapter v).takes rest x.0 x.1 (rest_fits (recording_bytes v (bodies whole)) rest bytes h.parts are) e in
          let tag : x.0.0 ≡ CHAPTER_TAG = eqb-true x.0.0 CHAPTER_TAG (passed (x.0.0 == CHAPTER_TAG) x.0.0 x.0.0 read.0.0.1).0 in
          inr (further x.0.1 x.1 (e ∙ (λ i. Some ((tag i, x.0.1), x.1))))

-- reading on from whole chapters
reads_on : (v : Version) (bytes : List ℕ) → AreBytes bytes → (n : ℕ) (rest : List ℕ) (whole : List PlacedChapter) → length rest ≤ n → Holds v bytes whole rest → Ends v bytes
reads_on v bytes are n [] whole le h = inl (whole, h)
reads_on v bytes are zero (b ∷ rest) whole le h = absurd (omega (arith, le))
reads_on v bytes are (suc n) (b ∷ rest) whole le h = elim (one_step v bytes are (b ∷ rest) whole (omega arith) h) [
  | inl end ↦ end
  | inr more ↦ (let less = more.less in reads_on v bytes are n more.after more.chapters (omega (arith, le, less)) more.holds)
]

-- The versions that are accepted.

same_or_not : (xs ys : List ℕ) → (xs ≡ ys) ⊎ (xs ≡ ys → ⊥)
same_or_not [] [] = inl refl
same_or_not [] (y ∷ ys) = inr (λ e. absurd cc)
same_or_not (x ∷ xs) [] = inr (λ e. absurd cc)
same_or_not (x ∷ xs) (y ∷ ys) = elim (cases_eq x y) [
  | inl e ↦ elim (same_or_not xs ys) [
    | inl es ↦ inl (λ i. e i ∷ es i)
    | inr other ↦ inr (λ es. other (let t : xs ≡ ys = cc in t))
  ]
  | inr other ↦ inr (λ es. other (let t : x ≡ y = cc in t))
]

module _ (versions : Version → Bool) (bytes : List ℕ) (are : AreBytes bytes) where
  abbrev Begins : Version → Type 0
  Begins v = (versions v ≡ true) × (take 8 bytes ≡ magic v)

  begins_or_not : (v : Version) → Begins v ⊎ (Begins v → ⊥)
  begins_or_not v = elim (cases_Bool (versions v)) [
    | inl of ↦ elim (same_or_not (take 8 bytes) (magic v)) [
      | inl same ↦ inl (of, same)
      | inr other ↦ inr (λ b. other b.1)
    ]
    | inr not_of ↦ inr (λ b. absurd (let t : true ≡ false = sym b.0 ∙ not_of in cc))
  ]

  read_in : (v : Version) → Begins v → IsRead versions bytes
  read_in v b = elim (reads_on v bytes are (length (drop 8 bytes)) (drop 8 bytes) [] (omega arith) (holds_none v bytes b.1)) [
    | inl r ↦ inl (r.0, (v, b.0, r.1))
    | inr f ↦ inr (f.0, f.1, fault_of_version versions v bytes f.0 b.0 f.2)
  ]

  none_begins : 8 ≤ length bytes → (Begins One → ⊥) → (Begins Two → ⊥) → IsRead versions bytes
  none_begins long one two = inr (BadFormat 0, (λ e. absurd cc), inl (record { long = long; other = other }, refl))
    where
      other : (v : Version) → versions v ≡ true → take 8 bytes ≡ magic v → ⊥
      other One of same = one (of, same)
      other Two of same = two (of, same)

  pub read_all : IsRead versions bytes
  read_all = elim (cases_lt (length bytes) 8) [
    | inl short ↦ inr (Truncated 0 [], (λ e. absurd cc), inl (short, refl, refl))
    | inr long ↦ elim (begins_or_not One) [
      | inl one ↦ read_in One one
      | inr not_one ↦ elim (begins_or_not Two) [
        | inl two ↦ read_in Two two
        | inr not_two ↦ none_begins long not_one not_two
      ]
    ]
  ]

pub each_read : (versions : Version → Bool) (bytes : List ℕ) → AreBytes bytes → IsRead versions bytes
each_read versions bytes are = read_all versions bytes are
