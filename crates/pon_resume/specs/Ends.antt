-- Where a recording ends.
use Rattle.std.specs.Prelude.{ℕ, ◌≡◌, ◌⊎◌, Bool, true, false, List, ◌∷◌, ◌++◌, [], Option, Some, None, Result}
use Rattle.pon_device.specs.declared.fault.DeviceFault.{DeviceFault}
use Rattle.pon_record.specs.Chapters.{PlacedChapter}
use Rattle.pon_record.specs.Recordings.{IsRecording, IsTruncated}
use Rattle.pon_record.specs.Streams.{Position, StandsAfter}
use Rattle.pon_audit.specs.Streams.{TellsFailure}
use Rattle.pon_audit.specs.Verdicts.{AreGood, HasChapters}
use Rattle.pon_audit.specs.declared.verdict.Verdict.{Verdict}
use Rattle.pon_audit.specs.declared.verdict.Verdict.TheVariants.{Good, Bad, BadFormat, Truncated}
use Rattle.pon_resume.specs.LastChapters.{AreLast}

-- Reading.

-- these are the chapters of the bytes, if the bytes are a recording, whole or cut
abbrev pub AreAll : List ℕ → List PlacedChapter → Type 0
AreAll bytes whole = (chapters : List PlacedChapter) → HasChapters bytes chapters → chapters ≡ whole

-- the next chapter, or none after the last one
abbrev pub GivesNext : List ℕ → List PlacedChapter → Position → Option (List ℕ) → Option PlacedChapter → Type 0
GivesNext bytes whole p left None = AreAll bytes whole
GivesNext bytes whole p left (Some c) = StandsAfter bytes (whole ++ c ∷ []) p left

-- the recording is opened, or has no chapter
abbrev pub OpensAt : List ℕ → Option (List ℕ) → Option Position → Type 0
OpensAt bytes left None = AreAll bytes []
OpensAt bytes left (Some p) = StandsAfter bytes [] p left

-- the last chapters of the bytes, if the bytes are a recording, whole or cut
abbrev pub AreLastIn : List ℕ → List (Option PlacedChapter) → Type 0
AreLastIn bytes lasts = (chapters : List PlacedChapter) → HasChapters bytes chapters → AreLast chapters lasts

-- Verdicts.

-- ports may go on after a recording that is good, also if it is cut in a further chapter
abbrev pub is_resumable : Verdict → Bool
is_resumable (Good maps) = true
is_resumable (Truncated at) = true
is_resumable (Bad port number index why) = false
is_resumable (BadFormat at) = false

-- the whole chapters of a recording with this verdict
abbrev pub AreOf : List ℕ → Verdict → List PlacedChapter → Type 0
AreOf bytes (Good maps) chapters = IsRecording bytes chapters
AreOf bytes (Truncated at) chapters = IsTruncated bytes at chapters
AreOf bytes (Bad port number index why) chapters = ⊥
AreOf bytes (BadFormat at) chapters = ⊥

-- the last chapters of the good recording with this verdict
pub record EndsWell (bytes : List ℕ) (v : Verdict) (lasts : List (Option PlacedChapter)) : Type 0 where
  pub chapters : List PlacedChapter
  pub are_of : AreOf bytes v chapters
  pub good : AreGood chapters
  pub last : AreLast chapters lasts

-- the last chapters are there exactly if ports may go on
abbrev pub TellsEnds : Verdict → Option (List (Option PlacedChapter)) → Type 0
TellsEnds v None = is_resumable v ≡ false
TellsEnds v (Some lasts) = is_resumable v ≡ true

-- a failure of the one device or of the other; nothing is written
abbrev pub TellsEither : {T : Type 0} → (old new old2 new2 : ℕ) → Result T DeviceFault → Type 0
TellsEither old new old2 new2 result =
    (TellsFailure old new result × (new2 ≡ old2)) ⊎ ((new ≡ old) × TellsFailure old2 new2 result)
