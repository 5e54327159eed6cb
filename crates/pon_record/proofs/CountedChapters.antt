-- The chapters of a recording, from head to head.
use Rattle.std.proofs.Common.{◌≡◌, ℕ, ◌+◌, ◌<◌, List, [], ◌∷◌, ◌++◌, length, drop, sym, ap, ◌∙◌, arith}
use Rattle.std.specs.Prelude.{map, slice_index}
use Rattle.std.specs.List.{flat_map, AllByRecursion}
use Rattle.std.proofs.lemmas.List.{append-nil, drop_at, length-append, length-map}
use Rattle.std.proofs.lemmas.List.Concat.{flat_map-cons}
use Rattle.pon_record.specs.declared.fault.ChapterFault.{ChapterFault}
use Rattle.pon_record.specs.declared.fault.ChapterFault.TheVariants.{CutShort, Malformed, Memory}
use Rattle.pon_record.specs.declared.version.Version.{Version}
use Rattle.pon_record.specs.Chapters.{Body, FitsChapter, PlacedChapter, body_in, body_size, chapter_bytes}
use Rattle.pon_record.specs.ChapterReading.{HasBody, HasNoBody}
use Rattle.pon_record.specs.Recordings.{IsRecordingIn}
use Rattle.pon_record.proofs.Magic.{drop_magic}
use Rattle.pon_record.proofs.OneReading.{chapter_length, cut_begins_none, size_told}

-- the bytes are those of the chapters that are left
pub record AreLeft (v : Version) (rest : List ℕ) (left : List Body) : Type 0 where
  pub fit : AllByRecursion (FitsChapter v) left
  pub is : rest ≡ flat_map (chapter_bytes v) left

-- the number of chapters counted so far, and of those that are left
pub record AreCounted (v : Version) (rest : List ℕ) (count : ℕ) (chapters : List PlacedChapter) : Type 0 where
  pub left : List Body
  pub there : AreLeft v rest left
  pub total : count + length left ≡ length chapters

module _ (v : Version) where
  pub none_counted : (bytes : List ℕ) (chapters : List PlacedChapter) → IsRecordingIn v bytes chapters → AreCounted v (drop 8 bytes) 0 chapters
  none_counted bytes chapters is =
      let bodies = map (λ (c : PlacedChapter). c.body) chapters in record {
        left = bodies;
        there = record { fit = is.fit; is = ap (drop 8) is.parts ∙ drop_magic v bodies [] ∙ append-nil (flat_map (chapter_bytes v) bodies) };
        total = omega (arith, length-map chapters (λ (c : PlacedChapter). c.body));
      }

  pub one_counted : (rest piece after : List ℕ) (count : ℕ) (chapters : List PlacedChapter) → HasBody rest piece → after ≡ drop (5 + length piece) rest → AreCounted v rest count chapters → AreCounted v after (count + 1) chapters
  one_counted rest piece after count chapters has is counted = go counted.left counted.there counted.total
    where
      go : (left : List Body) → AreLeft v rest left → count + length left ≡ length chapters → AreCounted v after (count + 1) chapters
      go [] there total = absurd (omega (arith, has.within, ap (λ (l : List ℕ). length l) there.is))
      go (b ∷ bs) there total =
          let first : rest ≡ chapter_bytes v b ++ flat_map (chapter_bytes v) bs = there.is ∙ flat_map-cons (chapter_bytes v) b bs in
          let size : length piece ≡ length ((body_in v).write b) = has.size ∙ ap body_size first ∙ size_told v b (flat_map (chapter_bytes v) bs) there.fit.0 in
          let long : length (chapter_bytes v b) ≡ 5 + length piece = omega (arith, size, chapter_length v b) in
          record {
            left = bs;
            there = record { fit = there.fit.1; is = is ∙ ap (drop (5 + length piece)) first ∙ drop_at (chapter_bytes v b) (flat_map (chapter_bytes v) bs) (5 + length piece) long };
            total = omega (arith, total);
          }

  -- chapters are left, and one of them begins the bytes
  pub no_fault : (rest : List ℕ) (count : ℕ) (chapters : List PlacedChapter) (fault : ChapterFault) → 0 < length rest → HasNoBody rest fault → AreCounted v rest count chapters → ⊥
  no_fault rest count chapters fault some none counted = go counted.left counted.there fault none
    where
      go : (left : List Body) → AreLeft v rest left → (fault : ChapterFault) → HasNoBody rest fault → ⊥
      go [] there fault none = omega (arith, some, ap (λ (l : List ℕ). length l) there.is)
      go (b ∷ bs) there CutShort none = (cut_begins_none v rest none).none b (flat_map (chapter_bytes v) bs) there.fit.0 (there.is ∙ flat_map-cons (chapter_bytes v) b bs)
      go (b ∷ bs) there Malformed none = none (ap (λ (l : List ℕ). slice_index l 0) (there.is ∙ flat_map-cons (chapter_bytes v) b bs))
      go (b ∷ bs) there Memory none = none

  pub all_counted : (rest : List ℕ) (count : ℕ) (chapters : List PlacedChapter) → rest ≡ [] → AreCounted v rest count chapters → count ≡ length chapters
  all_counted rest count chapters empty counted = go counted.left counted.there counted.total
    where
      go : (left : List Body) → AreLeft v rest left → count + length left ≡ length chapters → count ≡ length chapters
      go [] there total = omega (arith, total)
      go (b ∷ bs) there total = absurd (omega (arith, ap (λ (l : List ℕ). length l) (sym empty ∙ there.is ∙ flat_map-cons (chapter_bytes v) b bs), length-append (chapter_bytes v b) (flat_map (chapter_bytes v) bs), chapter_length v b))
