-- The answer of a port to an event, as a text.
use Rattle.std.proofs.Common.{◌≡◌, ℕ, ◌-◌, List, [], ◌∷◌, arith, get_or, refl, ap, sym, ◌∙◌, subst, length}
use Rattle.std.specs.Prelude.{Option, Some, None, Result, Ok, Err, IfSome, IsSome, OnOk, option_map, ◌++◌, ◌≢◌, slice_get}
use Rattle.std.proofs.Math.Seq.{get_or-append_seam}
use Rattle.std.proofs.lemmas.List.{length_push}
use Rattle.std.proofs.lemmas.Option.{slice_get-get_or}
use Rattle.pon_descr.specs.Checks.{IsTold}
use Rattle.pon_descr.specs.declared.refusal.Refusal.{Refusal}
use Rattle.pon_descr.specs.declared.refusal.Refusal.TheVariants.{OutOfMemory}
use Rattle.pon_admit.specs.declared.event.Event.{Event}
use Rattle.pon_admit.specs.declared.step.Step.{Step}
use Rattle.pon_state.specs.declared.reply.Reply.{Reply}
use Rattle.pon_history.specs.Chapters.{Chapter}
use Rattle.pon_history.specs.Taking.{refusal_of}
use Rattle.pon_plant.specs.Answers.{IsStepAnswer, KeepsStep}
use Rattle.pon_plant.proofs.Interleaving.{slice_get-set_same}
use Rattle.pon_plant.specs.declared.fault.StepFault.TheVariants.{Refused}
use Rattle.pon_line.specs.Places.{of_line}
use Rattle.pon_line.specs.declared.fault.LineFault.TheVariants.{Port}
use Rattle.pon_line.specs.declared.reading.Reading.TheVariants.{Asks}
use Rattle.pon_manage.specs.Refusals.{event_refusal}
use Rattle.pon_manage.specs.Text.{AddsAnswer, Answers, AsksPort, Posts, last_reply, refusal_line, reply_line}

abbrev pub at : ℕ → Event → Step
at port event = record { port = port; event = event }

-- the text of a refused event is that of its first refusal, unless memory was refused
refused_at : (old : List Chapter) (port : ℕ) (event : Event) (told : Refusal) (text : List ℕ) (o : Option Chapter) →
    IsStepAnswer o event (Err (Refused told)) → told ≢ OutOfMemory → text ≡ refusal_line (Port told) → AsksPort old port o event text old
refused_at old port event told text None h other is = absurd (cc)
refused_at old port event told text (Some c) h other is = by_check (refusal_of c event) h
  where
    by_check : (r : Option Refusal) → IsTold r told → Posts old port c event r text old
    by_check None h = absurd (other h)
    by_check (Some r) h = (subst (λ r. text ≡ refusal_line (Port r)) h is, refl)

pub refused_text : {T E : Type 0} (old new : List Chapter) (port : ℕ) (event : Event) (told : Refusal) (replies_old replies_new : List ℕ) (r : Result T E) →
    IsStepAnswer (slice_get old port) event (Err (Refused told)) → told ≢ OutOfMemory → new ≡ old →
    OnOk r (replies_new ≡ replies_old ++ refusal_line (Port told)) → OnOk r (AddsAnswer old (Asks port event) new replies_old replies_new)
refused_text old new port event told replies_old replies_new (Ok done) h other after is = (
  refusal_line (Port told),
  subst (λ ports. Answers old (Asks port event) (refusal_line (Port told)) ports) (sym after) (refused_at old port event told (refusal_line (Port told)) (slice_get old port) h other refl),
  is,
)
refused_text old new port event told replies_old replies_new (Err e) h other after is = tt

-- the last element of a list
last_of : {X : Type 0} (xs : List X) (y : X) → slice_get (xs ++ y ∷ []) (length (xs ++ y ∷ []) - 1) ≡ Some y
last_of xs y =
    let len : length (xs ++ y ∷ []) - 1 ≡ length xs = omega (arith, length_push xs y) in
    slice_get-get_or (xs ++ y ∷ []) (length (xs ++ y ∷ []) - 1) y (omega (arith, length_push xs y))
    ∙ ap (λ n. Some (get_or (xs ++ y ∷ []) n y)) len
    ∙ ap Some (get_or-append_seam xs y [] y)

-- the reply of an entry that is kept is that of the last entry of its port
pub reply_kept : (old new : List Chapter) (s : Step) (k : KeepsStep old s new) → last_reply (slice_get new s.port) ≡ Some k.keeps.reply
reply_kept old new s k =
    ap (λ plant. last_reply (slice_get plant s.port)) k.plant
    ∙ ap last_reply (slice_get-set_same old s.port k.before k.after k.at)
    ∙ ap (λ c. last_reply (Some c)) k.keeps.takes.kept
    ∙ ap (option_map (λ e. e.reply)) (last_of k.before.entries (record { event = s.event; reply = k.keeps.reply }))

pub reply_there : (old new : List Chapter) (s : Step) → KeepsStep old s new → IsSome (last_reply (slice_get new s.port))
reply_there old new s k = subst IsSome (sym (reply_kept old new s k)) refl

-- the text of an event that is kept is the reply of the last entry
pub kept_text : {T E : Type 0} (old new : List Chapter) (port : ℕ) (event : Event) (index : ℕ) (reply : Reply) (replies_old replies_new : List ℕ) (r : Result T E) →
    KeepsStep old (at port event) new → IfSome (slice_get old port) (λ c. index ≡ length c.entries) → last_reply (slice_get new port) ≡ Some reply →
    OnOk r (replies_new ≡ replies_old ++ reply_line index reply) → OnOk r (AddsAnswer old (Asks port event) new replies_old replies_new)
kept_text old new port event index reply replies_old replies_new (Err e) k place last is = tt
kept_text old new port event index reply replies_old replies_new (Ok done) k place last is =
    let kept : Some reply ≡ Some k.keeps.reply = sym last ∙ reply_kept old new (at port event) k in
    let same : reply ≡ k.keeps.reply = cc in
    let count : index ≡ length k.before.entries = subst (λ o. IfSome o (λ c. index ≡ length c.entries)) k.at place in
    let posts : Posts old port k.before event None (reply_line index reply) new = (k.keeps.reply, k.after, k.keeps.takes, (λ i. reply_line (count i) (same i)), k.plant) in (
      reply_line index reply,
      subst (λ o. AsksPort old port o event (reply_line index reply) new) (sym k.at)
          (subst (λ r. Posts old port k.before event r (reply_line index reply) new) (sym k.keeps.takes.follows.accepted) posts),
      is,
    )

-- the refusal of an event that is kept, or refused for this
pub kept_refusal : (old new : List Chapter) (port : ℕ) (event : Event) → KeepsStep old (at port event) new → event_refusal (slice_get old port) event ≡ None
kept_refusal old new port event k =
    ap (λ o. event_refusal o event) k.at ∙ ap (option_map (λ r. of_line (Port r))) k.keeps.takes.follows.accepted

pub told_refusal : (o : Option Chapter) (event : Event) (told : Refusal) → IsStepAnswer o event (Err (Refused told)) → told ≢ OutOfMemory → event_refusal o event ≡ Some (of_line (Port told))
told_refusal None event told h other = absurd (cc)
told_refusal (Some c) event told h other = by_check (refusal_of c event) h
  where
    by_check : (r : Option Refusal) → IsTold r told → option_map (λ r. of_line (Port r)) r ≡ Some (of_line (Port told))
    by_check None h = absurd (other h)
    by_check (Some r) h = ap (λ r. Some (of_line (Port r))) (sym h)
