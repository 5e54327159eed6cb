-- Chapters of version one that are moved one after another are a migrated recording.
use Rattle.std.proofs.Common.{◌≡◌, ℕ, ◌-◌, List, [], ◌∷◌, ◌++◌, length, take, drop, refl, sym, ap, subst, ◌∙◌, arith, inr}
use Rattle.std.proofs.lemmas.List.{append-nil, length-append, length-drop, take_at}
use Rattle.pon_lists.specs.Bytes.{AreBytes}
use Rattle.pon_record.specs.declared.limits.TheConstants.{CHAPTER_TAG, MAGIC_BYTES, MAGIC_ONE, MAGIC_TWO}
use Rattle.pon_record.specs.declared.fault.ReadFault.{ReadFault}
use Rattle.pon_record.specs.declared.fault.ReadFault.TheVariants.{BadFormat, Truncated, Memory}
use Rattle.pon_record.specs.declared.version.Version.TheVariants.{One, Two}
use Rattle.pon_record.specs.Chapters.{Body, FitsChapter, IsCutShort, PlacedChapter, chapter_bytes, placed}
use Rattle.pon_record.specs.ChapterReading.{BeginsWith}
use Rattle.pon_record.specs.Recordings.{EndsInside, Holds, IsFaultIn, IsRecordingIn, recording_bytes, version_one}
use Rattle.pon_record.specs.Migrations.{IsMigrated, IsMigrationFault}
use Rattle.pon_record.proofs.Exact.{rest_fits}
use Rattle.pon_record.proofs.ExactChapters.{exact_chapter}
use Rattle.pon_record.proofs.Reading.{bodies, holds_more, holds_none, place, recorded_more}
use Rattle.pon_record.proofs.Magic.{holds_magic}
use Rattle.pon_record.proofs.OneReading.{no_bad_format, not_cut_inside, nothing_begins_none, one_hold, written, written_is_read}
use Rattle.pon_record.proofs.MovedBodies.{all_fit_two}

-- the chapters before the rest are moved
pub record AreMoved (bytes rest out : List ℕ) : Type 0 where
  pub whole : List PlacedChapter
  pub holds : Holds One bytes whole rest
  pub is : out ≡ recording_bytes Two (bodies whole)

pub none_moved : (bytes out : List ℕ) → take 8 bytes ≡ MAGIC_ONE → out ≡ MAGIC_TWO → AreMoved bytes (drop 8 bytes) out
none_moved bytes out begins is = record { whole = []; holds = holds_none One bytes begins; is = is }

-- the chapter at the front of the rest
pub record IsAtFront (b : Body) (rest : List ℕ) (size : ℕ) : Type 0 where
  pub fits : FitsChapter One b
  pub is : take size rest ≡ chapter_bytes One b

pub at_front : (bytes rest out : List ℕ) (c : PlacedChapter) (at size : ℕ) → AreBytes bytes → AreMoved bytes rest out → BeginsWith One rest at c size → IsAtFront c.body rest size
at_front bytes rest out c at size are m begins =
    let text = chapter_bytes One c.body in
    let read = (exact_chapter One).takes rest (CHAPTER_TAG, c.body) (drop size rest) (rest_fits (recording_bytes One (bodies m.whole)) rest bytes m.holds.parts are) begins.read in
    let long : length text ≡ size = omega (arith, ap (λ (l : List ℕ). length l) read.1, length-append text (drop size rest), length-drop size rest, begins.within) in
    record { fits = read.0; is = ap (λ (l : List ℕ). take size l) read.1 ∙ take_at text (drop size rest) size long }

pub one_more_moved : (bytes rest out new : List ℕ) (c : PlacedChapter) (at size : ℕ) → AreBytes bytes → AreMoved bytes rest out → at ≡ length bytes - length rest → BeginsWith One rest at c size → new ≡ out ++ chapter_bytes Two c.body → AreMoved bytes (drop size rest) new
one_more_moved bytes rest out new c at size are m here begins put = record {
  whole = m.whole ++ c ∷ [];
  holds = holds_more One bytes rest m.whole c at size are m.holds here begins;
  is = put ∙ ap (λ (l : List ℕ). l ++ chapter_bytes Two c.body) m.is ∙ sym (recorded_more Two m.whole c);
}

pub all_moved : (bytes rest out : List ℕ) → rest ≡ [] → AreMoved bytes rest out → IsMigrated bytes out
all_moved bytes rest out none m =
    let bs : List Body = bodies m.whole in
    record {
      chapters = m.whole;
      moved = placed Two MAGIC_BYTES bs;
      was = subst (Holds One bytes m.whole) none m.holds;
      is = subst (λ (l : List ℕ). IsRecordingIn Two l (placed Two MAGIC_BYTES bs)) (sym m.is) (written_is_read Two bs (all_fit_two bs m.holds.fit));
      same = written Two bs MAGIC_BYTES;
    }

-- ---- faults

pub cut_inside : (bytes rest out : List ℕ) → AreMoved bytes rest out → IsCutShort rest → (whole : List PlacedChapter) × EndsInside One bytes (length bytes - length rest) whole
cut_inside bytes rest out m cut =
    (m.whole, record { rest = rest; holds = m.holds; cut = cut; there = omega (arith, place One bytes rest m.whole m.holds) })

module _ (bytes : List ℕ) (at : ℕ) (whole : List PlacedChapter) (e : EndsInside One bytes at whole) where
  -- the bytes before the chapter that is cut short are a recording of the chapters before it
  pub whole_before_cut : IsRecordingIn One (take at bytes) whole
  whole_before_cut =
      let front : List ℕ = recording_bytes One (bodies whole) in
      let long : length front ≡ at = omega (arith, e.there, ap (λ (l : List ℕ). length l) e.holds.parts, length-append front e.rest) in
      record {
        parts = ap (λ (l : List ℕ). take at l) e.holds.parts ∙ take_at front e.rest at long ∙ sym (append-nil front);
        fit = e.holds.fit;
        places = e.holds.places;
      }

  pub magic_before_cut : take MAGIC_BYTES (take at bytes) ≡ MAGIC_ONE
  magic_before_cut = holds_magic One (take at bytes) whole [] whole_before_cut

  -- chapters that are read of the bytes before it are these
  pub cut_after : (read : List PlacedChapter) → IsRecordingIn One (take at bytes) read → EndsInside One bytes at read
  cut_after read h =
      let same = one_hold One (take at bytes) read whole [] [] h whole_before_cut (nothing_begins_none One) (nothing_begins_none One) in
      subst (λ (l : List PlacedChapter). EndsInside One bytes at l) (sym same.chapters) e

  -- a fault of the bytes before it is that memory is refused
  pub memory_before_cut : (f : ReadFault) → IsFaultIn One (take at bytes) f → IsFaultIn One bytes f
  memory_before_cut (BadFormat there) h = absurd (no_bad_format version_one (take at bytes) whole there (One, refl, whole_before_cut) (inr (One, refl, h)))
  memory_before_cut (Truncated there before) h = absurd (not_cut_inside One (take at bytes) whole there before whole_before_cut h)
  memory_before_cut Memory h = record { whole = whole; rest = e.rest; holds = e.holds; more = λ none. absurd (omega (arith, e.cut.more, ap (λ (l : List ℕ). length l) none)) }

pub fault_of_migration : (bytes : List ℕ) (f : ReadFault) → IsFaultIn One bytes f → IsMigrationFault bytes f
fault_of_migration bytes (BadFormat at) h = inr (One, refl, h)
fault_of_migration bytes (Truncated at whole) h = inr (One, refl, h)
fault_of_migration bytes Memory h = (h.whole, h.rest, h.holds)
