-- A port that goes on where a recording ends, or why there is none.
use Rattle.std.specs.Prelude.{ℕ, ◌≡◌, ◌≢◌, ◌-◌, ◌^◌, List, [], ◌∷◌, ◌++◌, Some, None}
use Rattle.std.specs.declared.option.Option.{Option}
use Rattle.pon_state.specs.Ranges.{IsStateInRange}
use Rattle.pon_history.specs.Chapters.{Chapter, chapter_after, present_state}
use Rattle.pon_record.specs.Chapters.{PlacedChapter}
use Rattle.pon_record.specs.Recordings.{IsRecording}
use Rattle.pon_audit.specs.Openings.{FitsRecording, chapter_of, state_of}
use Rattle.pon_audit.specs.Verdicts.{AreGood, IsGoodChapter}
use Rattle.pon_resume.specs.LastChapters.{HasNone, IsLastOf}
use Rattle.pon_c.specs.Audits.{TellsVerdict}
use Rattle.pon_c.specs.declared.auditing.VerdictInfo.{VerdictInfo}
use Rattle.pon_c.specs.declared.numbers.TheConstants.{BAD_STATE, CHAPTER_FULL, NOT_GOOD, NO_CHAPTER, OUT_OF_MEMORY}

-- the bytes are a recording of good chapters
pub record IsGoodRecordingOf (bytes : List ℕ) (chapters : List PlacedChapter) : Type 0 where
  pub recording : IsRecording bytes chapters
  pub good : AreGood chapters

abbrev pub IsGoodRecording : List ℕ → Type 0
IsGoodRecording bytes = (chapters : List PlacedChapter) × IsGoodRecordingOf bytes chapters

-- a good recording without a chapter of the port, and with the last one of the port
abbrev pub LacksPort : List ℕ → ℕ → Type 0
LacksPort bytes port = (chapters : List PlacedChapter) × IsGoodRecordingOf bytes chapters × HasNone port chapters

abbrev pub EndsPort : List ℕ → ℕ → PlacedChapter → Type 0
EndsPort bytes port last = (chapters : List PlacedChapter) × IsGoodRecordingOf bytes chapters × IsLastOf port chapters last

abbrev pub TellsLast : List ℕ → ℕ → Option PlacedChapter → Type 0
TellsLast bytes port None = LacksPort bytes port
TellsLast bytes port (Some last) = EndsPort bytes port last × FitsRecording last.body

-- the chapter after the last one of the port in a good recording: it opens with the state at the end of that one, and has
-- the next number and no entries
abbrev pub ResumesAfter : List ℕ → ℕ → Chapter → Type 0
ResumesAfter bytes port begun = (last : PlacedChapter) × EndsPort bytes port last × (begun ≡ chapter_after (chapter_of last.body))

abbrev pub Resumes : List ℕ → ℕ → Option Chapter → Type 0
Resumes bytes port None = ⊥
Resumes bytes port (Some begun) = ResumesAfter bytes port begun

-- why no port goes on after a good chapter: there is no number for the next one, no port of this version has its end as a
-- state, or memory is refused
pub record IsRefusedAfter (last : PlacedChapter) (n : ℕ) : Type 0 where
  pub full : n ≡ CHAPTER_FULL → last.body.number ≡ 2 ^ 64 - 1
  pub state : n ≡ BAD_STATE → IsStateInRange (present_state (chapter_of last.body)) → ⊥
  pub others : n ≢ CHAPTER_FULL → n ≢ BAD_STATE → n ≡ OUT_OF_MEMORY

-- why none goes on after a good recording: no chapter is of the port, or one of these reasons
pub record TellsRefused (bytes : List ℕ) (port n : ℕ) : Type 0 where
  pub none : n ≡ NO_CHAPTER → LacksPort bytes port
  pub after : n ≢ NO_CHAPTER → n ≢ OUT_OF_MEMORY → (last : PlacedChapter) × EndsPort bytes port last × IsRefusedAfter last n

-- why none goes on after any bytes: they are no good recording, or one of these reasons
pub record TellsResume (bytes : List ℕ) (port : ℕ) (info : VerdictInfo) (n : ℕ) : Type 0 where
  pub verdict : n ≢ OUT_OF_MEMORY → TellsVerdict bytes info
  pub bad : n ≡ NOT_GOOD → info.verdict ≢ 0
  pub refused : n ≢ NOT_GOOD → n ≢ OUT_OF_MEMORY → TellsRefused bytes port n

-- a good chapter of the port with the number and the opening of one that was begun
pub record GoesOn (port : ℕ) (begun : Chapter) (next : PlacedChapter) : Type 0 where
  pub good : IsGoodChapter next
  pub of_port : next.body.port ≡ port
  pub of_number : next.body.number ≡ begun.number
  pub opening : state_of next.body.opening ≡ begun.opening

-- the chapters of the recording are good with any such chapter after them
abbrev pub IsGoodWith : List ℕ → ℕ → Chapter → Type 0
IsGoodWith bytes port begun = (chapters : List PlacedChapter) × IsRecording bytes chapters × ((next : PlacedChapter) → GoesOn port begun next → AreGood (chapters ++ next ∷ []))

abbrev pub StaysGood : List ℕ → ℕ → Option Chapter → Type 0
StaysGood bytes port None = ⊥
StaysGood bytes port (Some begun) = IsGoodWith bytes port begun
