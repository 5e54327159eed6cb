-- The port that goes on after a chapter, or why there is none.
use Rattle.std.specs.Prelude.{◌≡◌, ◌-◌, ◌^◌, Option, Some, None, Result, Ok, Err}
use Rattle.pon_state.specs.Ranges.{IsStateInRange}
use Rattle.pon_history.specs.Chapters.{Chapter, chapter_after, present_state}
use Rattle.pon_record.specs.Chapters.{PlacedChapter}
use Rattle.pon_audit.specs.Openings.{chapter_of}
use Rattle.pon_audit.specs.Verdicts.{IsGoodChapter}
use Rattle.pon_resume.specs.declared.not_resumed.NotResumed.{NotResumed}
use Rattle.pon_resume.specs.declared.not_resumed.NotResumed.TheVariants.{Chapter as BadChapter, Number, State, Memory}

-- why no port goes on after a chapter: it is not good, there is no number for the next one, no port of this version has
-- its end as a state, or memory is refused
abbrev pub IsRefusedAfter : PlacedChapter → NotResumed → Type 0
IsRefusedAfter last BadChapter = IsGoodChapter last → ⊥
IsRefusedAfter last Number = IsGoodChapter last × (last.body.number ≡ 2 ^ 64 - 1)
IsRefusedAfter last State = IsGoodChapter last × (IsStateInRange (present_state (chapter_of last.body)) → ⊥)
IsRefusedAfter last Memory = Unit {0}

-- the chapter is good, and this one opens with the state at its end, and has the next number and no entries
pub record IsAfter (last : PlacedChapter) (begun : Chapter) : Type 0 where
  pub good : IsGoodChapter last
  pub begins : begun ≡ chapter_after (chapter_of last.body)

-- the port that goes on after its last chapter; none only if it has no chapter
abbrev pub GoesOnAfter : Option PlacedChapter → Result (Option Chapter) NotResumed → Type 0
GoesOnAfter None (Ok None) = Unit {0}
GoesOnAfter None (Ok (Some begun)) = ⊥
GoesOnAfter None (Err why) = ⊥
GoesOnAfter (Some last) (Ok None) = ⊥
GoesOnAfter (Some last) (Ok (Some begun)) = IsAfter last begun
GoesOnAfter (Some last) (Err why) = IsRefusedAfter last why
