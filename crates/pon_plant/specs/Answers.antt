-- The answer to a step, and the plant after it.
use Rattle.std.specs.Prelude.{◌≡◌, ◌≢◌, List, length, All, Option, Some, None, Result, Ok, Err, slice_get, slice_set}
use Rattle.pon_descr.specs.Checks.{IsTold}
use Rattle.pon_descr.specs.declared.refusal.Refusal.TheVariants.{OutOfMemory}
use Rattle.pon_admit.specs.declared.event.Event.{Event}
use Rattle.pon_admit.specs.declared.step.Step.{Step}
use Rattle.pon_state.specs.Legal.{MayFollow}
use Rattle.pon_state.specs.declared.reply.Reply.{Reply}
use Rattle.pon_history.specs.Chapters.{Chapter, present_state}
use Rattle.pon_history.specs.FairMaps.{TellsFairMap}
use Rattle.pon_history.specs.Taking.{Keeps, refusal_of, with_entry}
use Rattle.pon_plant.specs.declared.fault.StepFault.{StepFault}
use Rattle.pon_plant.specs.declared.fault.StepFault.TheVariants.{NoSuchPort, Refused}

-- the entry may follow in the history of the port, and a map in its reply is fair
pub record IsAccepted (c : Chapter) (event : Event) (reply : Reply) : Type 0 where
  pub follows : MayFollow (length c.entries) (present_state c) (record { event = event; reply = reply })
  pub fair : TellsFairMap (present_state c) reply

-- the answer to an event at a port with this chapter (`None`: no such port): the reply of an entry that may follow, or
-- the first refusal, or out of memory if no check refuses
abbrev pub IsStepAnswer : Option Chapter → Event → Result Reply StepFault → Type 0
IsStepAnswer None event answer = answer ≡ Err NoSuchPort
IsStepAnswer (Some c) event (Ok reply) = IsAccepted c event reply
IsStepAnswer (Some c) event (Err NoSuchPort) = ⊥
IsStepAnswer (Some c) event (Err (Refused told)) = IsTold (refusal_of c event) told

abbrev pub NoneIsOutOfMemory : List (Result Reply StepFault) → Type 0
NoneIsOutOfMemory answers = All (λ answer. answer ≢ Err (Refused OutOfMemory)) answers

-- the port gets one more entry
abbrev pub after_accepted : List Chapter → Step → Reply → Option Chapter → List Chapter
after_accepted plant step reply None = plant
after_accepted plant step reply (Some c) = slice_set plant step.port (with_entry c step.event reply)

-- the plant after a step: an accepted step adds its entry at its port, any other leaves the plant unchanged
abbrev pub after_step : List Chapter → Step → Result Reply StepFault → List Chapter
after_step plant step (Ok reply) = after_accepted plant step reply (slice_get plant step.port)
after_step plant step (Err fault) = plant

-- the port of a step keeps an entry of its event, and no other port changes
pub record KeepsStep (old : List Chapter) (step : Step) (new : List Chapter) : Type 0 where
  pub before : Chapter
  pub after : Chapter
  pub at : slice_get old step.port ≡ Some before
  pub keeps : Keeps before step.event after
  pub plant : new ≡ slice_set old step.port after
