-- Bytes have at most one verdict.
use Rattle.std.proofs.Common.{◌≡◌, ℕ, zero, suc, ◌<◌, List, [], ◌∷◌, length, take, get_or, Some, ap, sym, ◌∙◌, subst, arith, inl, inr}
use Rattle.std.specs.Prelude.{All, slice_get, sum_by}
use Rattle.std.specs.List.{AllPairs}
use Rattle.std.proofs.lemmas.Bool.{cases_lt}
use Rattle.std.proofs.lemmas.List.{get_or-take, length-take-le, take-take}
use Rattle.std.proofs.lemmas.Option.{get_or_from_slice_get}
use Rattle.pon_record.specs.declared.fault.ReadFault.{ReadFault}
use Rattle.pon_record.specs.declared.fault.ReadFault.TheVariants as read
use Rattle.pon_record.specs.Chapters.{PlacedChapter}
use Rattle.pon_record.specs.Recordings.{IsBadFormat, IsTruncated, either_version}
use Rattle.pon_record.proofs.OneReading.{no_bad_format, no_truncated, one_fault, one_recording}
use Rattle.pon_audit.specs.Verdicts.{AreGood, ChapterFails, Continues, HasChapters, IsFirstFault, IsGoodChapter, IsVerdict, Rises, maps_in}
use Rattle.pon_audit.specs.declared.verdict.Verdict.{Verdict}
use Rattle.pon_audit.specs.declared.verdict.Verdict.TheVariants.{Good, Bad, BadFormat, Truncated}
use Rattle.pon_audit.specs.declared.verdict.AuditReason.{AuditReason}
use Rattle.pon_audit.proofs.OneFault.{get_take, good_has_no_fault, one_fault_of_chapter, some_same}

within : {X : Type 0} (xs : List X) (i : ℕ) (x : X) → slice_get xs i ≡ Some x → i < length xs
within [] i x h = absurd cc
within (y ∷ xs) zero x h = omega arith
within (y ∷ xs) (suc i) x h = omega (arith, within xs i x h)

-- what any two chapters have in order, a chapter has after each before it
after : (R : PlacedChapter → PlacedChapter → Type 0) (cs : List PlacedChapter) (k : ℕ) (c : PlacedChapter) → AllPairs R cs → slice_get cs k ≡ Some c → All (λ d. R d c) (take k cs)
after R cs k c pairs here j d less =
    let lt : k < length cs = within cs k c here in
    let before : j < k = omega (arith, less, length-take-le k cs (omega (arith, lt))) in
    let there : get_or cs k d ≡ c = get_or_from_slice_get cs k c d here in
    subst (λ x. R (get_or (take k cs) j d) x) there (subst (λ x. R x (get_or cs k d)) (sym (get_or-take k cs j d before)) (pairs j k d before lt))

-- if all chapters are good, none fails after those before it
pub none_fails : (cs : List PlacedChapter) (k : ℕ) (c : PlacedChapter) (i : ℕ) (w : AuditReason) → AreGood cs → slice_get cs k ≡ Some c → ChapterFails (take k cs) c i w → ⊥
none_fails cs k c i w good here fails =
    let lt : k < length cs = within cs k c here in
    let at : get_or cs k c ≡ c = get_or_from_slice_get cs k c c here in
    good_has_no_fault (take k cs) c i w (subst IsGoodChapter at (good.each k c lt))
    (record { chained = after Continues cs k c good.chained here; rising = after Rises cs k c good.rising here })
    fails

pub good_no_fault : (cs : List PlacedChapter) (port number index : ℕ) (w : AuditReason) → AreGood cs → IsFirstFault cs port number index w → ⊥
good_no_fault cs port number index w good f = none_fails cs f.place f.chapter index w good f.here f.fails

-- Two faults of the same chapters.

pub record SameBad (p q m n i j : ℕ) (w v : AuditReason) : Type 0 where
  pub port : p ≡ q
  pub number : m ≡ n
  pub index : i ≡ j
  pub why : w ≡ v

module _ (cs : List PlacedChapter) (p q m n i j : ℕ) (w v : AuditReason) where
  not_earlier : (f : IsFirstFault cs p m i w) → (g : IsFirstFault cs q n j v) → f.place < g.place → ⊥
  not_earlier f g lt =
      none_fails (take g.place cs) f.place f.chapter i w g.good (get_take cs f.place g.place lt ∙ f.here)
      (subst (λ l. ChapterFails l f.chapter i w) (sym (take-take f.place g.place cs (omega (arith, lt)))) f.fails)

  same_place : (f : IsFirstFault cs p m i w) → (g : IsFirstFault cs q n j v) → f.place ≡ g.place → SameBad p q m n i j w v
  same_place f g same =
      let chapter : f.chapter ≡ g.chapter = some_same (slice_get cs g.place) f.chapter g.chapter (ap (slice_get cs) (sym same) ∙ f.here) g.here in
      let moved : ChapterFails (take g.place cs) g.chapter i w = subst (λ c. ChapterFails (take g.place cs) c i w) chapter (subst (λ k. ChapterFails (take k cs) f.chapter i w) same f.fails) in
      let one = one_fault_of_chapter (take g.place cs) g.chapter i j w v moved g.fails in
      record {
        port = f.of_port ∙ ap (λ c. c.body.port) chapter ∙ sym g.of_port;
        number = f.of_number ∙ ap (λ c. c.body.number) chapter ∙ sym g.of_number;
        index = one.0;
        why = one.1;
      }

pub one_first : (cs : List PlacedChapter) (p q m n i j : ℕ) (w v : AuditReason) → IsFirstFault cs p m i w → IsFirstFault cs q n j v → SameBad p q m n i j w v
one_first cs p q m n i j w v f g = elim (cases_lt f.place g.place) [
  | inl lt ↦ absurd (not_earlier cs p q m n i j w v f g lt)
  | inr le ↦ elim (cases_lt g.place f.place) [
    | inl lt ↦ absurd (not_earlier cs q p n m j i v w g f lt)
    | inr ge ↦ same_place cs p q m n i j w v f g (omega (arith, le, ge))
  ]
]

-- Two verdicts.

abbrev whole_of : ReadFault → List PlacedChapter
whole_of (read.Truncated at whole) = whole
whole_of (read.BadFormat at) = []
whole_of read.Memory = []

abbrev at_of : ReadFault → ℕ
at_of (read.Truncated at whole) = at
at_of (read.BadFormat at) = at
at_of read.Memory = 0

abbrev is_cut : ReadFault → ℕ
is_cut (read.Truncated at whole) = 1
is_cut (read.BadFormat at) = 0
is_cut read.Memory = 0

module _ (bytes : List ℕ) where
  both_cut : (at at2 : ℕ) (cs ds : List PlacedChapter) → IsTruncated bytes at cs → IsTruncated bytes at2 ds → read.Truncated at cs ≡ read.Truncated at2 ds
  both_cut at at2 cs ds t u = one_fault either_version bytes (read.Truncated at cs) (read.Truncated at2 ds) t u (λ e. absurd cc) (λ e. absurd cc)

  never_both : (at at2 : ℕ) (cs : List PlacedChapter) → IsTruncated bytes at cs → IsBadFormat bytes at2 → ⊥
  never_both at at2 cs t b =
      let e = ap is_cut (one_fault either_version bytes (read.Truncated at cs) (read.BadFormat at2) t b (λ e. absurd cc) (λ e. absurd cc)) in
      absurd (omega (arith, e))

  same_chapters : (cs ds : List PlacedChapter) → HasChapters bytes cs → HasChapters bytes ds → cs ≡ ds
  same_chapters cs ds (inl r) (inl q) = one_recording either_version bytes cs ds r q
  same_chapters cs ds (inl r) (inr (at, t)) = absurd (no_truncated either_version bytes cs at ds r t)
  same_chapters cs ds (inr (at, t)) (inl q) = absurd (no_truncated either_version bytes ds at cs q t)
  same_chapters cs ds (inr (at, t)) (inr (at2, u)) = ap whole_of (both_cut at at2 cs ds t u)

  no_format_fault : (cs : List PlacedChapter) (at : ℕ) → HasChapters bytes cs → IsBadFormat bytes at → ⊥
  no_format_fault cs at (inl r) b = no_bad_format either_version bytes cs at r b
  no_format_fault cs at (inr (at2, t)) b = never_both at2 at cs t b

  --   good chapters of the same bytes have no fault
  good_and_bad : (cs ds : List PlacedChapter) (p m i : ℕ) (w : AuditReason) → HasChapters bytes cs → AreGood cs → HasChapters bytes ds → IsFirstFault ds p m i w → ⊥
  good_and_bad cs ds p m i w h good k f = good_no_fault ds p m i w (subst AreGood (same_chapters cs ds h k) good) f

  both_bad : (cs ds : List PlacedChapter) (p q m n i j : ℕ) (w v : AuditReason) → HasChapters bytes cs → IsFirstFault cs p m i w → HasChapters bytes ds → IsFirstFault ds q n j v → Bad p m i w ≡ Bad q n j v
  both_bad cs ds p q m n i j w v h f k g =
      let same = one_first ds p q m n i j w v (subst (λ l. IsFirstFault l p m i w) (same_chapters cs ds h k) f) g in
      λ t. Bad (same.port t) (same.number t) (same.index t) (same.why t)

  pub one_verdict : (v w : Verdict) → IsVerdict bytes v → IsVerdict bytes w → v ≡ w
  one_verdict (Good a) (Good b) (cs, r, g) (ds, q, h) = ap Good (g.count ∙ ap (sum_by maps_in) (one_recording either_version bytes cs ds r q) ∙ sym h.count)
  one_verdict (Good a) (Bad p m i w) (cs, r, g) (ds, k, f) = absurd (good_and_bad cs ds p m i w (inl r) g.good k f)
  one_verdict (Good a) (BadFormat at) (cs, r, g) b = absurd (no_bad_format either_version bytes cs at r b)
  one_verdict (Good a) (Truncated at) (cs, r, g) (ds, t, h) = absurd (no_truncated either_version bytes cs at ds r t)
  one_verdict (Bad p m i w) (Good b) (cs, k, f) (ds, q, h) = absurd (good_and_bad ds cs p m i w (inl q) h.good k f)
  one_verdict (Bad p m i w) (Bad q n j v) (cs, k, f) (ds, l, g) = both_bad cs ds p q m n i j w v k f l g
  one_verdict (Bad p m i w) (BadFormat at) (cs, k, f) b = absurd (no_format_fault cs at k b)
  one_verdict (Bad p m i w) (Truncated at) (cs, k, f) (ds, t, g) = absurd (good_and_bad ds cs p m i w (inr (at, t)) g k f)
  one_verdict (BadFormat at) (Good b) f (ds, q, h) = absurd (no_bad_format either_version bytes ds at q f)
  one_verdict (BadFormat at) (Bad q n j v) f (ds, l, g) = absurd (no_format_fault ds at l f)
  one_verdict (BadFormat at) (BadFormat at2) f g = ap BadFormat (ap at_of (one_fault either_version bytes (read.BadFormat at) (read.BadFormat at2) f g (λ e. absurd cc) (λ e. absurd cc)))
  one_verdict (BadFormat at) (Truncated at2) f (ds, t, g) = absurd (never_both at2 at ds t f)
  one_verdict (Truncated at) (Good b) (cs, t, g) (ds, q, h) = absurd (no_truncated either_version bytes ds at cs q t)
  one_verdict (Truncated at) (Bad q n j v) (cs, t, g) (ds, l, f) = absurd (good_and_bad cs ds q n j v (inr (at, t)) g l f)
  one_verdict (Truncated at) (BadFormat at2) (cs, t, g) b = absurd (never_both at at2 cs t b)
  one_verdict (Truncated at) (Truncated at2) (cs, t, g) (ds, u, h) = ap Truncated (ap at_of (both_cut at at2 cs ds t u))
