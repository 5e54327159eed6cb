-- What turns a port, and the recording of the chapter that it returned.
use Rattle.std.specs.Prelude.{ℕ, ◌≡◌, ◌≢◌, List, [], ◌∷◌, Some, None}
use Rattle.std.specs.declared.option.Option.{Option}
use Rattle.pon_descr.specs.declared.refusal.Refusal.{Refusal}
use Rattle.pon_history.specs.Chapters.{Chapter, chapter_after}
use Rattle.pon_history.specs.Taking.{turn_refusal}
use Rattle.pon_record.specs.declared.version.Version.TheVariants as version
use Rattle.pon_record.specs.Recordings.{recording_bytes}
use Rattle.pon_record.specs.Bodies.{chapter_body}
use Rattle.pon_c.specs.Filling.{IsGiven}
use Rattle.pon_c.specs.Numbers.{number_of}
use Rattle.pon_c.specs.declared.numbers.TheConstants.{CLOSED, OUT_OF_MEMORY}

-- the kept chapter goes into the handle, and the next one begins in the same state
abbrev pub TurnsInto : Option Chapter → Option Chapter → Option (Option Chapter) → Type 0
TurnsInto (Some c) (Some d) into = (d ≡ chapter_after c) × (into ≡ Some (Some c))
TurnsInto (Some c) None into = ⊥
TurnsInto None d into = ⊥

-- why a port was not turned: the handle is closed, memory is refused, or there is no number for the next chapter
abbrev pub TellsTurn : Option Chapter → ℕ → Type 0
TellsTurn None n = n ≡ CLOSED
TellsTurn (Some c) n = n ≢ 0 → n ≢ OUT_OF_MEMORY → (told : Refusal) × (turn_refusal c ≡ Some told) × (n ≡ number_of told)

-- the bytes of the recording of a chapter of a port, or why there are none
abbrev pub TellsRecording : ℕ → Option (Option Chapter) → ℕ → ℕ → List ℕ → List ℕ → Type 0
TellsRecording port None n size before after = (n ≡ CLOSED) × (after ≡ before)
TellsRecording port (Some None) n size before after = (n ≡ CLOSED) × (after ≡ before)
TellsRecording port (Some (Some c)) n size before after = IsGiven (recording_bytes version.Two (chapter_body port c ∷ [])) n size before after
