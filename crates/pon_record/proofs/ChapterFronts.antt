-- The bytes of one chapter, taken from a device.
use Rattle.std.proofs.Common.{◌≡◌, ℕ, ◌+◌, ◌<◌, ◌≤◌, List, [], ◌∷◌, ◌++◌, length, take, drop, refl, sym, ap, subst, ◌∙◌, append_assoc, arith, inl, inr}
use Rattle.std.specs.Prelude.{Option, Some, None, slice_index}
use Rattle.std.proofs.KnownBytes.{Consumes-nil, Consumes-trans}
use Rattle.std.proofs.lemmas.Bool.{cases_lt}
use Rattle.std.proofs.lemmas.List.{append-nil, length-append, nil_from_length, take_at}
use Rattle.pon_lists.specs.Bytes.{AreBytes}
use Rattle.pon_device.specs.Device.{Consumes, IsAtEnd}
use Rattle.pon_record.specs.declared.limits.TheConstants.{CHAPTER_TAG, HEAD_BYTES}
use Rattle.pon_record.specs.declared.version.Version.{Version}
use Rattle.pon_record.specs.Chapters.{Body, FitsChapter, IsCutShort, PlacedChapter, body_in, body_size, chapter_bytes, tagged_body_in}
use Rattle.pon_record.specs.ChapterReading.{BeginsWith}
use Rattle.pon_record.specs.Recordings.{IsNoChapter}
use Rattle.pon_record.specs.Streams.{Fills, HasFront, IsSize, TellsSize}
use Rattle.pon_record.proofs.ExactChapters.{exact_chapter}
use Rattle.pon_record.proofs.OneReading.{chapter_length, size_told}

-- A head, and more bytes.

pub same_tag : (front after : List ℕ) → 0 < length front → slice_index (front ++ after) 0 ≡ slice_index front 0
same_tag [] after some = absurd (omega (arith, some))
same_tag (b ∷ front) after some = refl

pub same_size : (head more : List ℕ) → 5 ≤ length head → body_size (head ++ more) ≡ body_size head
same_size [] more long = absurd (omega (arith, long))
same_size (a ∷ []) more long = absurd (omega (arith, long))
same_size (a ∷ b ∷ []) more long = absurd (omega (arith, long))
same_size (a ∷ b ∷ c ∷ []) more long = absurd (omega (arith, long))
same_size (a ∷ b ∷ c ∷ d ∷ []) more long = absurd (omega (arith, long))
same_size (a ∷ b ∷ c ∷ d ∷ e ∷ head) more long = refl

-- a chapter is whole if it is not cut short
pub long_enough : (front : List ℕ) → 0 < length front → slice_index front 0 ≡ CHAPTER_TAG → (IsCutShort front → ⊥) → 5 + body_size front ≤ length front
long_enough front some tag whole = elim (cases_lt (length front) (5 + body_size front)) [
  | inl short ↦ absurd (whole (record { more = some; tag = tag; ends = short }))
  | inr long ↦ long
]

module _ (v : Version) where
  --   the chapter that begins the front is all of it
  pub front_is : (front : List ℕ) (c : PlacedChapter) (at size : ℕ) → AreBytes front → (slice_index front 0 ≡ CHAPTER_TAG → length front ≤ 5 + body_size front) → BeginsWith v front at c size → FitsChapter v c.body × (front ≡ chapter_bytes v c.body)
  front_is front c at size are within begins =
      let read = (exact_chapter v).takes front (CHAPTER_TAG, c.body) (drop size front) are begins.read in
      let tag : slice_index front 0 ≡ CHAPTER_TAG = ap (λ (l : List ℕ). slice_index l 0) read.1 in
      let told : body_size front ≡ length ((body_in v).write c.body) = ap body_size read.1 ∙ size_told v c.body (drop size front) read.0 in
      let none : drop size front ≡ []
      = nil_from_length (drop size front)
      (omega (arith, ap (λ (l : List ℕ). length l) read.1, length-append (chapter_bytes v c.body) (drop size front), chapter_length v c.body, told, within tag)) in
      (read.0, read.1 ∙ ap (λ (l : List ℕ). chapter_bytes v c.body ++ l) none ∙ append-nil (chapter_bytes v c.body))

  module _ (front after : List ℕ) (some : 0 < length front) (none : (tagged_body_in v).read front ≡ None) (whole : IsCutShort front → ⊥) (within : slice_index front 0 ≡ CHAPTER_TAG → length front ≤ 5 + body_size front) where
    not_cut : IsCutShort (front ++ after) → ⊥
    not_cut cut =
        let long : 5 + body_size front ≤ length front = long_enough front some (sym (same_tag front after some) ∙ cut.tag) whole in
        omega (arith, long, cut.ends, same_size front after (omega (arith, long)), length-append front after)

    none_read : {x : (ℕ × Body) × List ℕ} → None ≡ Some x → ⊥
    none_read e = cc

    no_other : (b : Body) (rest : List ℕ) → FitsChapter v b → front ++ after ≡ chapter_bytes v b ++ rest → ⊥
    no_other b rest fits e =
        let tag : slice_index front 0 ≡ CHAPTER_TAG = sym (same_tag front after some) ∙ ap (λ (l : List ℕ). slice_index l 0) e in
        let long : 5 + body_size front ≤ length front = long_enough front some tag whole in
        let size : body_size front ≡ length ((body_in v).write b) = sym (same_size front after (omega (arith, long))) ∙ ap body_size e ∙ size_told v b rest fits in
        let same : length (chapter_bytes v b) ≡ length front = omega (arith, chapter_length v b, size, long, within tag) in
        let is : front ≡ chapter_bytes v b ++ []
        = sym (take_at front after (length front) refl) ∙ ap (take (length front)) e ∙ take_at (chapter_bytes v b) rest (length front) same ∙ sym (append-nil (chapter_bytes v b)) in
        none_read (sym none ∙ ap (tagged_body_in v).read is ∙ (exact_chapter v).again (CHAPTER_TAG, b) [] fits)

    --     if the front is no chapter, no chapter begins it with what follows
    pub none_begins : IsNoChapter v (front ++ after)
    none_begins = record {
      more = λ e. absurd (omega (arith, some, ap (λ (l : List ℕ). length l) e, length-append front after));
      ends = not_cut;
      other = no_other;
    }

-- The steps of a read.

-- from a device that states its bytes
pub stated : (old new : Option (List ℕ)) (rest more : List ℕ) → old ≡ Some rest → Consumes old new more → (after : List ℕ) × (new ≡ Some after) × (rest ≡ more ++ after)
stated None new rest more e t = absurd cc
stated (Some xs) None rest more e t = absurd t
stated (Some xs) (Some ys) rest more e t = (ys, refl, same xs rest e ∙ t)
  where
    same : (xs ys : List ℕ) → Some xs ≡ Some ys → ys ≡ xs
    same xs ys e = cc

pub ended : (new : Option (List ℕ)) (after : List ℕ) → new ≡ Some after → IsAtEnd new → after ≡ []
ended None after e end = absurd cc
ended (Some ys) after e end = same ys after e ∙ end
  where
    same : (xs ys : List ℕ) → Some xs ≡ Some ys → ys ≡ xs
    same xs ys e = cc

-- a head that tells no size is the front
pub front_of_head : (old new : Option (List ℕ)) (head : List ℕ) → Fills [] head HEAD_BYTES old new → TellsSize head None → HasFront old new head
front_of_head old new head fills untold =
    let few : length head ≤ 5 = fills.within (omega arith) in
    record {
      taken = subst (Consumes old new) (sym fills.grown) fills.taken;
      none = λ e. fills.ended (omega (arith, e));
      cut = λ cut. elim untold [ inl short ↦ fills.ended short | inr other ↦ absurd (other cut.tag) ];
      within = λ tag. omega (arith, few);
    }

-- a head and the rest of the chapter are the front
pub front_of_both : (old mid new : Option (List ℕ)) (head front : List ℕ) (size : ℕ) → Fills [] head HEAD_BYTES old mid → IsSize head size → Fills head front size mid new → Consumes old new front → HasFront old new front
front_of_both old mid new head front size fills is rest taken =
    let few : length head ≤ 5 = fills.within (omega arith) in
    let same : body_size front ≡ body_size head = ap body_size rest.grown ∙ same_size head rest.more is.long in
    let long : length front ≡ length head + length rest.more = ap (λ (l : List ℕ). length l) rest.grown ∙ length-append head rest.more in
    record {
      taken = taken;
      none = λ e. rest.ended (omega (arith, e, is.told));
      cut = λ cut. rest.ended (omega (arith, cut.ends, same, is.told));
      within = λ tag. let fits : length front ≤ size = rest.within (omega (arith, few, is.told)) in omega (arith, fits, same, is.told);
    }

-- the buffer so far
pub record Grows (before after : List ℕ) (size : ℕ) (old new : Option (List ℕ)) : Type 0 where
  pub more : List ℕ
  pub grown : after ≡ before ++ more
  pub taken : Consumes old new more
  pub within : length before ≤ size → length after ≤ size

pub grows_none : (before : List ℕ) (size : ℕ) (left : Option (List ℕ)) → Grows before before size left left
grows_none before size left = record { more = []; grown = sym (append-nil before); taken = Consumes-nil left; within = λ le. le }

pub grows_more : (before mid after : List ℕ) (size : ℕ) (old left new : Option (List ℕ)) (piece : List ℕ) → Grows before mid size old left → Consumes left new piece → after ≡ mid ++ piece → length mid + length piece ≤ size → Grows before after size old new
grows_more before mid after size old left new piece g taken is fits = record {
  more = g.more ++ piece;
  grown = is ∙ ap (λ (l : List ℕ). l ++ piece) g.grown ∙ append_assoc before g.more piece;
  taken = Consumes-trans old left new g.more piece g.taken taken;
  within = λ le. omega (arith, fits, ap (λ (l : List ℕ). length l) is, length-append mid piece);
}

pub filled : (before after : List ℕ) (size : ℕ) (old new : Option (List ℕ)) → Grows before after size old new → (length after < size → IsAtEnd new) → Fills before after size old new
filled before after size old new g ended = record { more = g.more; grown = g.grown; taken = g.taken; within = g.within; ended = ended }

-- a read of no bytes is the end
pub no_more : (before after piece : List ℕ) (size count : ℕ) (old left new : Option (List ℕ)) → Grows before after size old left → count ≡ 0 → Consumes left new (take count piece) → IsAtEnd new → Fills before after size old new
no_more before after piece size count old left new g zero taken end = record {
  more = g.more;
  grown = g.grown;
  taken = subst (Consumes old new) (append-nil g.more) (Consumes-trans old left new g.more [] g.taken (subst (λ n. Consumes left new (take n piece)) zero taken));
  within = g.within;
  ended = λ less. end;
}
