-- Turns of the ports of a plant.
use Rattle.std.specs.Prelude.{ℕ, ◌≡◌, ◌≤◌, List, [], ◌∷◌, length, Option, Some, None, slice_get, slice_set}
use Rattle.std.specs.Option.{option_map}
use Rattle.pon_descr.specs.Checks.{IsTold}
use Rattle.pon_descr.specs.declared.refusal.Refusal.TheVariants.{ChapterFull}
use Rattle.pon_admit.specs.declared.event.Event.{Event}
use Rattle.pon_state.specs.Entry.{Entry}
use Rattle.pon_state.specs.declared.checks.TheConstants.{MAX_ENTRIES}
use Rattle.pon_history.specs.Chapters.{Chapter, chapter_after}
use Rattle.pon_history.specs.Taking.{refusal_of, turn_refusal}
use Rattle.pon_plant.specs.Runs.{with_entries}
use Rattle.pon_plant.specs.declared.fault.StepFault.{StepFault}
use Rattle.pon_plant.specs.declared.fault.StepFault.TheVariants.{NoSuchPort, Refused}

-- a port with this chapter refuses the event only because the chapter is full, and the chapter is not the last one
pub record IsFullFor (c : Chapter) (event : Event) : Type 0 where
  pub full : MAX_ENTRIES ≤ length c.entries
  pub refused : refusal_of c event ≡ Some ChapterFull
  pub turns : turn_refusal c ≡ None

-- the chapter of the port of this number is full for the event
abbrev pub IsFullAt : List Chapter → ℕ → Event → Type 0
IsFullAt plant port event = (c : Chapter) × (slice_get plant port ≡ Some c) × IsFullFor c event

-- the port of this number gives its chapter and begins the next one, and no other port changes
pub record TurnsPort (old : List Chapter) (port : ℕ) (chapter : Chapter) (new : List Chapter) : Type 0 where
  pub at : slice_get old port ≡ Some chapter
  pub plant : new ≡ slice_set old port (chapter_after chapter)

-- why a port with this chapter (`None`: no such port) is not turned
abbrev pub IsTurnFault : Option Chapter → StepFault → Type 0
IsTurnFault None fault = fault ≡ NoSuchPort
IsTurnFault (Some c) NoSuchPort = ⊥
IsTurnFault (Some c) (Refused told) = IsTold (turn_refusal c) told

-- each port keeps its chapter, perhaps with more entries
abbrev pub KeepsChapters : List Chapter → List Chapter → Type 0
KeepsChapters old new = (port : ℕ) → (more : List Entry) × (slice_get new port ≡ option_map (with_entries more) (slice_get old port))

-- the ports take entries, and from time to time one of them is turned: these chapters are given, each with the number of
-- its port, in this order
abbrev pub GivesChapters : List Chapter → List (ℕ × Chapter) → List Chapter → Type 0
GivesChapters old [] new = KeepsChapters old new
GivesChapters old (t ∷ turned) new = (mid begun : List Chapter) × KeepsChapters old mid × TurnsPort mid t.0 t.1 begun × GivesChapters begun turned new
