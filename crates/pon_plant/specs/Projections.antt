-- Steps at many ports, seen at one of them.
use Rattle.std.specs.Prelude.{ℕ, ◌==◌, if◌then◌else◌, List, [], ◌∷◌, map, Result, Ok, Err}
use Rattle.std.specs.List.{filter}
use Rattle.pon_admit.specs.declared.event.Event.{Event}
use Rattle.pon_admit.specs.declared.step.Step.{Step}
use Rattle.pon_state.specs.Entry.{Entry}
use Rattle.pon_state.specs.declared.reply.Reply.{Reply}
use Rattle.pon_plant.specs.declared.fault.StepFault.{StepFault}

-- the projection of steps on a port: the events of its steps, in order
abbrev pub events_at : ℕ → List Step → List Event
events_at port steps = map (λ s. s.event) (filter (λ s. s.port == port) steps)

-- events as the steps of a plant with one port
abbrev pub steps_alone : List Event → List Step
steps_alone events = map (λ v. record { port = 0; event = v }) events

-- the answers to the steps of a port, in order
abbrev pub answers_at : ℕ → List Step → List (Result Reply StepFault) → List (Result Reply StepFault)
answers_at port [] answers = []
answers_at port (s ∷ steps) [] = []
answers_at port (s ∷ steps) (a ∷ answers) =
    if s.port == port then a ∷ answers_at port steps answers else answers_at port steps answers

-- the entries of the accepted events, in order, with their replies
abbrev pub entries_of : List Event → List (Result Reply StepFault) → List Entry
entries_of [] answers = []
entries_of (v ∷ events) [] = []
entries_of (v ∷ events) (Ok reply ∷ answers) = record { event = v; reply = reply } ∷ entries_of events answers
entries_of (v ∷ events) (Err fault ∷ answers) = entries_of events answers

-- the accepted steps of a port's projection, in order, with their replies
abbrev pub accepted : ℕ → List Step → List (Result Reply StepFault) → List Entry
accepted port steps answers = entries_of (events_at port steps) (answers_at port steps answers)
