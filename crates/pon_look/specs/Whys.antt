-- The explanation of a map of a chapter.
use Rattle.std.specs.Prelude.{ℕ, ◌≡◌, ◌<◌, ◌⊎◌, slice_get, Some}
use Rattle.pon_demand.specs.Sharing.{IsCertified}
use Rattle.pon_state.specs.State.{input_of}
use Rattle.pon_state.specs.Entry.{Entry}
use Rattle.pon_state.specs.declared.reply.MadeMap.{MadeMap}
use Rattle.pon_state.specs.declared.reply.Reply.TheVariants.{Map}
use Rattle.pon_history.specs.Chapters.{Chapter, IsLawfulChapter, IsLawfulOpening, cut_at, state_before}
use Rattle.pon_audit.specs.Faults.{FailsAt}
use Rattle.pon_audit.specs.declared.verdict.AuditReason.{AuditReason}
use Rattle.pon_look.specs.Explanations.{Explains}
use Rattle.pon_look.specs.declared.replay.MapExplanation.{MapExplanation}
use Rattle.pon_look.specs.declared.why.MapAnswer.{MapAnswer}
use Rattle.pon_look.specs.declared.why.MapAnswer.TheVariants.{Explained, Refused}

-- the entry at an index has a map, the entries before it are lawful, and each number of the explanation is the one that
-- the definitions give in the state before the entry
pub record ExplainsEntry (c : Chapter) (index : ℕ) (x : MapExplanation) : Type 0 where
  pub entry : Entry
  pub here : slice_get c.entries index ≡ Some entry
  pub made : MadeMap
  pub is_map : entry.reply ≡ Map made
  pub lawful : IsLawfulChapter (cut_at c index)
  pub explains : Explains (state_before c index) made.cert x

-- the entries before an index are lawful, and the entry there has no map whose certificate is that of the state before it
pub record HasNoMap (c : Chapter) (index : ℕ) : Type 0 where
  pub entry : Entry
  pub here : slice_get c.entries index ≡ Some entry
  pub lawful : IsLawfulChapter (cut_at c index)
  pub none : (made : MadeMap) → entry.reply ≡ Map made → IsCertified (input_of (state_before c index)) made.cert → ⊥

-- the opening is not lawful
abbrev pub OpensUnlawfully : Chapter → Type 0
OpensUnlawfully c = IsLawfulOpening c.number c.opening → ⊥

-- this entry is the first that may not follow, and it is before an index
abbrev pub FailsBefore : Chapter → ℕ → ℕ → Type 0
FailsBefore c index entry = (entry < index) × ((why : AuditReason) × FailsAt c entry why)

-- the chapter is refused at this entry, up to the one at an index
abbrev pub IsRefused : Chapter → ℕ → ℕ → Type 0
IsRefused c index entry = (OpensUnlawfully c × (entry ≡ 0)) ⊎ FailsBefore c index entry ⊎ (HasNoMap c index × (entry ≡ index))

abbrev pub IsExplained : Chapter → ℕ → MapAnswer → Type 0
IsExplained c index (Explained x) = ExplainsEntry c index x
IsExplained c index (Refused entry) = IsRefused c index entry
