-- Runs of a plant: steps at its ports, in any interleaving.
use Rattle.std.specs.Prelude.{ℕ, ◌≡◌, ◌++◌, List, length, take, Option, Some, Result, slice_get}
use Rattle.std.specs.Option.{option_map}
use Rattle.pon_admit.specs.declared.step.Step.{Step}
use Rattle.pon_state.specs.Entry.{Entry}
use Rattle.pon_state.specs.declared.reply.Reply.{Reply}
use Rattle.pon_history.specs.Chapters.{Chapter}
use Rattle.pon_plant.specs.declared.fault.StepFault.{StepFault}
use Rattle.pon_plant.specs.Answers.{IsStepAnswer, NoneIsOutOfMemory}
use Rattle.pon_plant.specs.Projections.{accepted, answers_at}

-- a chapter with additional entries
abbrev pub with_entries : List Entry → Chapter → Chapter
with_entries es c = record { number = c.number; opening = c.opening; entries = c.entries ++ es }

-- the chapter of a port after steps and their answers: its new entries are the accepted steps of its projection, in
-- order, with their replies
abbrev pub chapter_after : List Chapter → ℕ → List Step → List (Result Reply StepFault) → Option Chapter
chapter_after old port steps answers = option_map (with_entries (accepted port steps answers)) (slice_get old port)

-- steps taken one after another: its port answers each of them in the state that the accepted steps before it leave
-- there, and each port has the chapter that its own steps leave
pub record Ran (old : List Chapter) (steps : List Step) (answers : List (Result Reply StepFault)) (new : List Chapter) : Type 0 where
  pub one_each : length answers ≡ length steps
  pub answered : (k : ℕ) (step : Step) (answer : Result Reply StepFault) → slice_get steps k ≡ Some step → slice_get answers k ≡ Some answer
      → IsStepAnswer (chapter_after old step.port (take k steps) (take k answers)) step.event answer
  pub chapters : (port : ℕ) → slice_get new port ≡ chapter_after old port steps answers

-- a run seen at one port: the port begins with this chapter, and none of its steps is answered as out of memory
pub record RanFrom (port : ℕ) (c : Chapter) (old : List Chapter) (steps : List Step) (answers : List (Result Reply StepFault)) (new : List Chapter) : Type 0 where
  pub begins : slice_get old port ≡ Some c
  pub ran : Ran old steps answers new
  pub memory : NoneIsOutOfMemory (answers_at port steps answers)
