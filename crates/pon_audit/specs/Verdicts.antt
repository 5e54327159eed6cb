-- The verdict of a recording.
use Rattle.std.specs.Prelude.{ℕ, ◌≡◌, ◌<◌, ◌⊎◌, All, List, take, slice_get, Some, count_by, sum_by}
use Rattle.std.specs.List.{AllPairs}
use Rattle.pon_state.specs.Maps.{makes_map}
use Rattle.pon_state.specs.Entry.{Entry}
use Rattle.pon_history.specs.Chapters.{Chapter, Follows, IsLawfulChapter, state_before}
use Rattle.pon_history.specs.FairMaps.{TellsFairMap}
use Rattle.pon_history.specs.WordRuns.{RunsAreWhole}
use Rattle.pon_record.specs.Chapters.{PlacedChapter}
use Rattle.pon_record.specs.Recordings.{IsBadFormat, IsRecording, IsTruncated}
use Rattle.pon_audit.specs.Openings.{OpensLawfully, chapter_of}
use Rattle.pon_audit.specs.Faults.{FailsAt}
use Rattle.pon_audit.specs.declared.verdict.AuditReason.{AuditReason}
use Rattle.pon_audit.specs.declared.verdict.AuditReason.TheVariants as why
use Rattle.pon_audit.specs.declared.verdict.Verdict.{Verdict}
use Rattle.pon_audit.specs.declared.verdict.Verdict.TheVariants.{Good, Bad, BadFormat, Truncated}

-- Good chapters.

-- each map is certified, the fairest, in whole words and without overlap, for the state before it
abbrev pub MapsAreFair : Chapter → Type 0
MapsAreFair c = (k : ℕ) (e : Entry) → slice_get c.entries k ≡ Some e → TellsFairMap (state_before c k) e.reply

-- the opening is lawful, each entry may follow those before it, and each map is fair; under the rule that carries what
-- whole words leave, the words over each run of maps are the whole part of the sum of the rates
pub record IsGoodChapter (c : PlacedChapter) : Type 0 where
  pub lawful : IsLawfulChapter (chapter_of c.body)
  pub fair : MapsAreFair (chapter_of c.body)
  pub runs : RunsAreWhole (chapter_of c.body)

-- if both are chapters of one port, the earlier one in the recording has the smaller number
abbrev pub Rises : PlacedChapter → PlacedChapter → Type 0
Rises earlier later = earlier.body.port ≡ later.body.port → earlier.body.number < later.body.number

-- if both are chapters of one port with consecutive numbers, the later one in the recording opens with the state at the
-- end of the earlier one
abbrev pub Continues : PlacedChapter → PlacedChapter → Type 0
Continues earlier later = earlier.body.port ≡ later.body.port → Follows (chapter_of earlier.body) (chapter_of later.body)

pub record AreGood (chapters : List PlacedChapter) : Type 0 where
  pub each : All IsGoodChapter chapters
  pub chained : AllPairs Continues chapters
  pub rising : AllPairs Rises chapters

-- the number of maps of a chapter
abbrev pub maps_in : PlacedChapter → ℕ
maps_in c = count_by (λ e. makes_map e.event) c.body.entries

-- the chapters are good, and have this number of maps together
pub record IsGood (chapters : List PlacedChapter) (maps : ℕ) : Type 0 where
  pub good : AreGood chapters
  pub count : maps ≡ sum_by maps_in chapters

-- The first chapter that fails.

-- the chapter continues each earlier one
abbrev pub IsChained : List PlacedChapter → PlacedChapter → Type 0
IsChained earlier c = All (λ d. Continues d c) earlier

-- its number is greater than that of each earlier chapter of its port
abbrev pub Ascends : List PlacedChapter → PlacedChapter → Type 0
Ascends earlier c = All (λ d. Rises d c) earlier

-- by its opening and its number, the chapter may stand after the earlier ones
pub record MayStandAfter (earlier : List PlacedChapter) (c : PlacedChapter) : Type 0 where
  pub chained : IsChained earlier c
  pub rising : Ascends earlier c

-- it continues each earlier chapter, but its number does not ascend
pub record FallsBehind (earlier : List PlacedChapter) (c : PlacedChapter) : Type 0 where
  pub chained : IsChained earlier c
  pub falls : Ascends earlier c → ⊥

-- a chapter after earlier ones fails by its opening, by an earlier chapter that it does not continue, by its number, or
-- by the entry at an index; the first of these counts
abbrev pub ChapterFails : List PlacedChapter → PlacedChapter → ℕ → AuditReason → Type 0
ChapterFails earlier c index why.Opening = (OpensLawfully c.body → ⊥) × (index ≡ 0)
ChapterFails earlier c index why.Chain = OpensLawfully c.body × (IsChained earlier c → ⊥) × (index ≡ 0)
ChapterFails earlier c index why.Number = OpensLawfully c.body × FallsBehind earlier c × (index ≡ 0)
ChapterFails earlier c index w = OpensLawfully c.body × MayStandAfter earlier c × FailsAt (chapter_of c.body) index w

-- the first chapter that fails: its port and number, the index of the entry, and why
pub record IsFirstFault (chapters : List PlacedChapter) (port number index : ℕ) (w : AuditReason) : Type 0 where
  pub place : ℕ
  pub chapter : PlacedChapter
  pub here : slice_get chapters place ≡ Some chapter
  pub good : AreGood (take place chapters)
  pub fails : ChapterFails (take place chapters) chapter index w
  pub of_port : port ≡ chapter.body.port
  pub of_number : number ≡ chapter.body.number

-- Verdicts.

-- the whole chapters of a recording, or of a recording that is cut
abbrev pub HasChapters : List ℕ → List PlacedChapter → Type 0
HasChapters bytes chapters = IsRecording bytes chapters ⊎ ((at : ℕ) × IsTruncated bytes at chapters)

abbrev pub IsVerdict : List ℕ → Verdict → Type 0
IsVerdict bytes (Good maps) = (chapters : List PlacedChapter) × IsRecording bytes chapters × IsGood chapters maps
IsVerdict bytes (Bad port number index w) = (chapters : List PlacedChapter) × HasChapters bytes chapters × IsFirstFault chapters port number index w
IsVerdict bytes (BadFormat at) = IsBadFormat bytes at
IsVerdict bytes (Truncated at) = (whole : List PlacedChapter) × IsTruncated bytes at whole × AreGood whole
