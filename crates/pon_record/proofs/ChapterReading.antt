-- A chapter is its tag, the length of its body, and the body.
use Rattle.std.proofs.Common.{◌≡◌, ℕ, ◌+◌, ◌≤◌, false, cond, ltb, eqb, List, [], ◌∷◌, length, get_or, take, drop, Option, Some, None, refl, sym, ap, ◌∙◌, arith}
use Rattle.std.specs.Int.{w8, w32, from_be_bytes}
use Rattle.std.proofs.lemmas.Bool.{le-ltb}
use Rattle.std.proofs.lemmas.List.{length-drop, drop-drop}
use Rattle.pon_lists.specs.OptionSteps.{◌>>=◌}
use Rattle.pon_record.specs.declared.limits.TheConstants.{CHAPTER_TAG, HEAD_BYTES}
use Rattle.pon_record.specs.Format.{Format, all_of, number, only, sized, ◌&◌}
use Rattle.pon_record.specs.declared.version.Version.{Version}
use Rattle.pon_record.specs.Chapters.{PlacedChapter, body_in}
use Rattle.pon_record.specs.ChapterReading.{BeginsWith, HasBody}

-- for any format of the body
module _ {A : Type 0} (f : Format A) where
  abbrev tagged : Format (ℕ × A)
  tagged = only (λ n. eqb n CHAPTER_TAG) (number w8) & sized w32 f

  abbrev sized_value : A → List ℕ → Option (A × List ℕ)
  sized_value x after = Some (x, after)

  abbrev tagged_value : A × List ℕ → Option ((ℕ × A) × List ℕ)
  tagged_value b = Some ((CHAPTER_TAG, b.0), b.1)

  -- what is read after the tag and the length
  abbrev after_head : ℕ → List ℕ → Option ((ℕ × A) × List ℕ)
  after_head size rest = cond (ltb (length rest) size) None (all_of (f.read (take size rest)) >>= λ x. sized_value x (drop size rest)) >>= tagged_value

  with_head : (tag : ℕ) (more : List ℕ) → 4 ≤ length more → tag ≡ CHAPTER_TAG → tagged.read (tag ∷ more) ≡ after_head (from_be_bytes w32 (take 4 more)) (drop 4 more)
  with_head tag more long is =
      let one : ltb (length (tag ∷ more)) 1 ≡ false = le-ltb (length (tag ∷ more)) 1 (omega arith) in
      let four : ltb (length more) 4 ≡ false = le-ltb (length more) 4 long in
      rw is (rw (one, four) refl)

  pub reads : (bytes piece : List ℕ) (x : A) → get_or bytes 0 0 ≡ CHAPTER_TAG → 5 + length piece ≤ length bytes → length piece ≡ from_be_bytes w32 (take 4 (drop 1 bytes)) → piece ≡ take (length piece) (drop 5 bytes)
      → all_of (f.read piece) ≡ Some x → tagged.read bytes ≡ Some ((CHAPTER_TAG, x), drop (5 + length piece) bytes)
  reads [] piece x tag within size is e = absurd (omega (arith, within))
  reads (b ∷ more) piece x tag within size is e =
      let inside : ltb (length (drop 4 more)) (length piece) ≡ false = le-ltb _ _ (omega (arith, within, length-drop 4 more)) in
      let whole : take (length piece) (drop 4 more) ≡ piece = sym is in
      let five : 1 + (4 + length piece) ≡ 5 + length piece = omega arith in
      let after : drop (length piece) (drop 4 more) ≡ drop (5 + length piece) (b ∷ more)
      = drop-drop (length piece) 4 more ∙ drop-drop (4 + length piece) 1 (b ∷ more) ∙ ap (λ (n : ℕ). drop n (b ∷ more)) five in
      with_head b more (omega (arith, within)) tag
      ∙ ap (λ (n : ℕ). after_head n (drop 4 more)) (sym size)
      ∙ rw (inside, whole, e, after) refl

-- a chapter whose body is read begins the bytes
pub begins_with : (v : Version) (bytes piece : List ℕ) (at : ℕ) (c : PlacedChapter) → HasBody bytes piece → all_of ((body_in v).read piece) ≡ Some c.body → c.at ≡ at → BeginsWith v bytes at c (HEAD_BYTES + length piece)
begins_with v bytes piece at c has e place = record {
  place = place;
  some = omega arith;
  within = has.within;
  read = reads (body_in v) bytes piece c.body has.tag has.within has.size has.is e;
}
