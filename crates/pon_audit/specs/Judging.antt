-- The fault of a chapter, alone and after earlier ones.
use Rattle.std.specs.Prelude.{ℕ, ◌≡◌, ◌+◌, ◌<◌, ◌⊎◌, All, List, Option, Some, None, slice_get, slice_index_or}
use Rattle.std.specs.List.{AllZip}
use Rattle.pon_units.specs.declared.limits.TheConstants.{MAX_PORTS}
use Rattle.pon_state.specs.State.{State}
use Rattle.pon_history.specs.Taking.{IsKept}
use Rattle.pon_record.specs.Chapters.{Body, PlacedChapter}
use Rattle.pon_audit.specs.Openings.{OpensLawfully, chapter_of, state_of}
use Rattle.pon_audit.specs.Faults.{FailsAt}
use Rattle.pon_audit.specs.Verdicts.{AreGood, IsFirstFault, IsGoodChapter}
use Rattle.pon_audit.specs.declared.chapters.Fault.{Fault}
use Rattle.pon_audit.specs.declared.chapters.Judged.{Judged}
use Rattle.pon_audit.specs.declared.chapters.Judged.TheVariants.{Unlawful, Fails, Ends}
use Rattle.pon_audit.specs.declared.ends.End.{End}
use Rattle.pon_audit.specs.EndTables.{EndTable}
use Rattle.pon_audit.specs.declared.ends.KeptEnds.TheVariants.{OfChapters}
use Rattle.pon_audit.specs.declared.verdict.Verdict.{Verdict}
use Rattle.pon_audit.specs.declared.verdict.Verdict.TheVariants.{Bad}

-- A chapter alone.

-- the opening of the chapter is lawful, and an entry fails
pub record FailsLater (c : PlacedChapter) (f : Fault) : Type 0 where
  pub opens : OpensLawfully c.body
  pub entry : FailsAt (chapter_of c.body) f.index f.why

-- the chapter is good, and this is the state at its end
pub record EndsWith (c : PlacedChapter) (end : State) : Type 0 where
  pub good : IsGoodChapter c
  pub kept : IsKept (chapter_of c.body) end

-- the fault of the chapter, or the state at its end, regardless of earlier chapters
abbrev pub IsJudgment : PlacedChapter → Judged → Type 0
IsJudgment c Unlawful = OpensLawfully c.body → ⊥
IsJudgment c (Fails f) = FailsLater c f
IsJudgment c (Ends end) = EndsWith c end

-- Earlier chapters.

-- the port, the number and the end of a chapter
pub record IsEndOf (c : PlacedChapter) (e : End) : Type 0 where
  pub of_port : e.port ≡ c.body.port
  pub of_number : e.number ≡ c.body.number
  pub ends : EndsWith c e.end

-- the number and the end of the last chapter of a port; its other chapters have smaller numbers
pub record IsLast (earlier : List PlacedChapter) (port : ℕ) (last : End) : Type 0 where
  pub place : ℕ
  pub chapter : PlacedChapter
  pub here : slice_get earlier place ≡ Some chapter
  pub of_port : chapter.body.port ≡ port
  pub of_number : last.number ≡ chapter.body.number
  pub ends : EndsWith chapter last.end
  pub others : All (λ d. d.body.port ≡ port → (d.body.number < last.number) ⊎ (d ≡ chapter)) earlier

abbrev pub IsLastOf : List PlacedChapter → ℕ → Option End → Type 0
IsLastOf earlier port None = All (λ d. d.body.port ≡ port → ⊥) earlier
IsLastOf earlier port (Some last) = IsLast earlier port last

-- the end at a place is that of the last chapter of a port
pub record IsHeld (earlier : List PlacedChapter) (ends : List End) (port place : ℕ) : Type 0 where
  pub last : End
  pub here : slice_get ends place ≡ Some last
  pub named : last.port ≡ port
  pub is_last : IsLast earlier port last

abbrev pub IsPlaceOf : List PlacedChapter → List End → ℕ → Option ℕ → Type 0
IsPlaceOf earlier ends port None = All (λ d. d.body.port ≡ port → ⊥) earlier
IsPlaceOf earlier ends port (Some place) = IsHeld earlier ends port place

-- the chapters are good, and the table has the last ends of the ports; and all ends, if it keeps those of all chapters
pub record AreJudged (earlier : List PlacedChapter) (t : EndTable) : Type 0 where
  pub good : AreGood earlier
  pub each : t.kept ≡ OfChapters → AllZip IsEndOf earlier t.ends
  pub lasts : (port : ℕ) → port < MAX_PORTS → IsPlaceOf earlier t.ends port (slice_index_or t.places port None)

-- an end is the one before a chapter of its port only if the chapter opens with it
abbrev pub OpensAt : PlacedChapter → End → Type 0
OpensAt c e = e.port ≡ c.body.port → c.body.number ≡ e.number + 1 → state_of c.body.opening ≡ e.end

-- the state at an end is one of a chapter
abbrev pub IsKeptEnd : End → Type 0
IsKeptEnd e = (b : Body) × IsKept (chapter_of b) e.end

-- the verdict gives the first chapter that fails
abbrev pub TellsBad : List PlacedChapter → Verdict → Type 0
TellsBad chapters (Bad port number index w) = IsFirstFault chapters port number index w
TellsBad chapters _ = ⊥
