-- Chapters that are read one after another are a recording.
use Rattle.std.proofs.Common.{◌≡◌, ℕ, ◌+◌, ◌-◌, ◌<◌, List, [], ◌∷◌, ◌++◌, length, take, drop, Some, None, refl, sym, ap, subst, ◌∙◌, append_assoc, arith}
use Rattle.std.specs.Prelude.{map}
use Rattle.std.specs.List.{flat_map, AllByRecursion}
use Rattle.std.proofs.lemmas.List.{append-nil, length-append, map-append, take-append-drop}
use Rattle.std.proofs.lemmas.List.Concat.{flat_map-cons}
use Rattle.pon_lists.specs.Bytes.{AreBytes}
use Rattle.pon_record.specs.declared.limits.TheConstants.{CHAPTER_TAG}
use Rattle.pon_record.specs.declared.version.Version.{Version}
use Rattle.pon_record.specs.Chapters.{Body, FitsChapter, IsCutShort, PlacedChapter, chapter_bytes, placed, tagged_body_in}
use Rattle.pon_record.specs.ChapterReading.{BeginsWith}
use Rattle.pon_record.specs.Recordings.{HasNoChapterAt, Holds, IsNoChapter, magic, recording_bytes}
use Rattle.pon_record.proofs.Exact.{rest_fits}
use Rattle.pon_record.proofs.ExactChapters.{exact_chapter}
use Rattle.pon_record.proofs.Magic.{magic_length}

abbrev pub bodies : List PlacedChapter → List Body
bodies cs = map (λ c. c.body) cs

module _ (v : Version) where
  fit_more : (bs : List Body) (b : Body) → AllByRecursion (FitsChapter v) bs → FitsChapter v b → AllByRecursion (FitsChapter v) (bs ++ b ∷ [])
  fit_more [] b fit last = (last, tt)
  fit_more (x ∷ bs) b fit last = (fit.0, fit_more bs b fit.1 last)

  one_more : (bs : List Body) (b : Body) → flat_map (chapter_bytes v) (bs ++ b ∷ []) ≡ flat_map (chapter_bytes v) bs ++ chapter_bytes v b
  one_more [] b = flat_map-cons (chapter_bytes v) b [] ∙ append-nil (chapter_bytes v b)
  one_more (x ∷ bs) b = flat_map-cons (chapter_bytes v) x (bs ++ b ∷ []) ∙ ap (λ (l : List ℕ). chapter_bytes v x ++ l) (one_more bs b)
      ∙ sym (append_assoc (chapter_bytes v x) (flat_map (chapter_bytes v) bs) (chapter_bytes v b)) ∙ ap (λ (l : List ℕ). l ++ chapter_bytes v b) (sym (flat_map-cons (chapter_bytes v) x bs))

  placed_more : (at : ℕ) (bs : List Body) (b : Body) → placed v at (bs ++ b ∷ []) ≡ placed v at bs ++ record { at = at + length (flat_map (chapter_bytes v) bs); body = b } ∷ []
  placed_more at [] b = ap (λ (n : ℕ). record { at = n; body = b } ∷ []) (omega arith)
  placed_more at (x ∷ bs) b =
      let next = at + length (chapter_bytes v x) in
      let there : next + length (flat_map (chapter_bytes v) bs) ≡ at + length (flat_map (chapter_bytes v) (x ∷ bs))
      = omega (arith, ap (λ (l : List ℕ). length l) (flat_map-cons (chapter_bytes v) x bs), length-append (chapter_bytes v x) (flat_map (chapter_bytes v) bs)) in
      ap (λ (l : List PlacedChapter). record { at = at; body = x } ∷ l) (placed_more next bs b)
      ∙ ap (λ (n : ℕ). record { at = at; body = x } ∷ (placed v next bs ++ record { at = n; body = b } ∷ [])) there

  -- the place of the rest
  pub place : (bytes rest : List ℕ) (whole : List PlacedChapter) → Holds v bytes whole rest → 8 + length (flat_map (chapter_bytes v) (bodies whole)) + length rest ≡ length bytes
  place bytes rest whole h =
      omega (
        arith,
        ap (λ (l : List ℕ). length l) h.parts,
        length-append (recording_bytes v (bodies whole)) rest,
        length-append (magic v) (flat_map (chapter_bytes v) (bodies whole)),
        magic_length v,
      )

  -- after the magic bytes
  pub holds_none : (bytes : List ℕ) → take 8 bytes ≡ magic v → Holds v bytes [] (drop 8 bytes)
  holds_none bytes begins = record {
    parts = sym (take-append-drop 8 bytes) ∙ ap (λ (l : List ℕ). l ++ drop 8 bytes) (begins ∙ sym (append-nil (magic v)));
    fit = tt;
    places = refl;
  }

  -- the bytes of one more chapter
  pub recorded_more : (whole : List PlacedChapter) (c : PlacedChapter) → recording_bytes v (bodies (whole ++ c ∷ [])) ≡ recording_bytes v (bodies whole) ++ chapter_bytes v c.body
  recorded_more whole c =
      ap (recording_bytes v) (map-append (λ (c : PlacedChapter). c.body) whole (c ∷ []))
      ∙ ap (λ (l : List ℕ). magic v ++ l) (one_more (bodies whole) c.body)
      ∙ sym (append_assoc (magic v) (flat_map (chapter_bytes v) (bodies whole)) (chapter_bytes v c.body))

  -- one more chapter, whose bytes come next
  pub holds_next : (bytes rest after : List ℕ) (whole : List PlacedChapter) (c : PlacedChapter) → Holds v bytes whole rest → FitsChapter v c.body → rest ≡ chapter_bytes v c.body ++ after → c.at + length rest ≡ length bytes → Holds v bytes (whole ++ c ∷ []) after
  holds_next bytes rest after whole c h fits next here =
      let front = recording_bytes v (bodies whole) in
      let list : bodies (whole ++ c ∷ []) ≡ bodies whole ++ c.body ∷ [] = map-append (λ (c : PlacedChapter). c.body) whole (c ∷ []) in
      let at_is : 8 + length (flat_map (chapter_bytes v) (bodies whole)) ≡ c.at = omega (arith, place bytes rest whole h, here) in
      record {
        parts = h.parts ∙ ap (λ (l : List ℕ). front ++ l) next ∙ sym (append_assoc front (chapter_bytes v c.body) after)
            ∙ ap (λ (l : List ℕ). l ++ after) (sym (recorded_more whole c));
        fit = subst (AllByRecursion (FitsChapter v)) (sym list) (fit_more (bodies whole) c.body h.fit fits);
        places = ap (λ (l : List PlacedChapter). l ++ c ∷ []) h.places
            ∙ ap (λ (n : ℕ). placed v 8 (bodies whole) ++ record { at = n; body = c.body } ∷ []) (sym at_is)
            ∙ sym (placed_more 8 (bodies whole) c.body) ∙ ap (placed v 8) (sym list);
      }

  -- one more chapter, which is read
  pub holds_more : (bytes rest : List ℕ) (whole : List PlacedChapter) (c : PlacedChapter) (at size : ℕ) → AreBytes bytes → Holds v bytes whole rest → at ≡ length bytes - length rest → BeginsWith v rest at c size → Holds v bytes (whole ++ c ∷ []) (drop size rest)
  holds_more bytes rest whole c at size are h here begins =
      let read = (exact_chapter v).takes rest (CHAPTER_TAG, c.body) (drop size rest) (rest_fits (recording_bytes v (bodies whole)) rest bytes h.parts are) begins.read in
      holds_next bytes rest (drop size rest) whole c h read.0 read.1 (omega (arith, place bytes rest whole h, here, begins.place))

  -- the bytes begin with no chapter
  pub no_chapter : (rest : List ℕ) → 0 < length rest → (tagged_body_in v).read rest ≡ None → (IsCutShort rest → ⊥) → IsNoChapter v rest
  no_chapter rest some none ends = record {
    more = λ e. absurd (omega (arith, some, ap (λ (l : List ℕ). length l) e));
    ends = ends;
    other = λ b after fits e. read_none (sym none ∙ ap (tagged_body_in v).read e ∙ (exact_chapter v).again (CHAPTER_TAG, b) after fits);
  }
    where
      read_none : {x : (ℕ × Body) × List ℕ} → None ≡ Some x → ⊥
      read_none e = cc

  pub no_chapter_at : (bytes rest : List ℕ) (whole : List PlacedChapter) → Holds v bytes whole rest → IsNoChapter v rest → HasNoChapterAt v bytes (length bytes - length rest)
  no_chapter_at bytes rest whole h none = record { whole = whole; rest = rest; holds = h; none = none; there = omega (arith, place bytes rest whole h) }
