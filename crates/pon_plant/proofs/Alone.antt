-- A port of a plant runs as if it were alone.
use Rattle.std.proofs.Common.{◌≡◌, ℕ, List, [], ◌∷◌, ap, sym, subst}
use Rattle.std.specs.Prelude.{Some, Ok, Err, Result, slice_get}
use Rattle.pon_admit.specs.declared.event.Event.{Event}
use Rattle.pon_admit.specs.declared.step.Step.{Step}
use Rattle.pon_state.specs.declared.reply.Reply.{Reply}
use Rattle.pon_history.specs.Chapters.{Chapter}
use Rattle.pon_history.specs.Taking.{with_entry}
use Rattle.pon_plant.specs.declared.fault.StepFault.{StepFault}
use Rattle.pon_plant.specs.Projections.{accepted, answers_at, entries_of, events_at, steps_alone}
use Rattle.pon_plant.specs.Runs.{Ran, with_entries}
use Rattle.pon_plant.proofs.Interleaving.{no_steps, run_first, with_more, with_none}
use Rattle.pon_plant.proofs.OneHistory.{Answered, ends_as, seen_alone}

-- events with their answers are a run of a plant that has this port alone
alone : (c : Chapter) (vs : List Event) (rs : List (Result Reply StepFault)) → Answered c vs rs → Ran (c ∷ []) (steps_alone vs) rs (with_entries (entries_of vs rs) c ∷ [])
alone c [] [] h = no_steps (c ∷ []) (with_entries [] c ∷ []) (λ p. ap (λ (d : Chapter). slice_get (d ∷ []) p) (with_none c))
alone c [] (a ∷ rs) h = absurd h
alone c (v ∷ vs) [] h = absurd h
alone c (v ∷ vs) (Ok reply ∷ rs) h =
    subst (λ d. Ran (c ∷ []) (steps_alone (v ∷ vs)) (Ok reply ∷ rs) (d ∷ [])) (sym (with_more (record { event = v; reply = reply } ∷ []) (entries_of vs rs) c))
    (run_first (c ∷ []) (record { port = 0; event = v }) (Ok reply) h.0 (steps_alone vs) rs _ (alone (with_entry c v reply) vs rs h.1))
alone c (v ∷ vs) (Err fault ∷ rs) h =
    run_first (c ∷ []) (record { port = 0; event = v }) (Err fault) h.0 (steps_alone vs) rs _ (alone c vs rs (subst (λ d. Answered d vs rs) (with_none c) h.1))

pub runs_alone : (old new : List Chapter) (ss : List Step) (rs : List (Result Reply StepFault)) (p : ℕ) (c : Chapter) → Ran old ss rs new → slice_get old p ≡ Some c →
    (d : Chapter) × (slice_get new p ≡ Some d) × Ran (c ∷ []) (steps_alone (events_at p ss)) (answers_at p ss rs) (d ∷ [])
runs_alone old new ss rs p c ran found =
    (with_entries (accepted p ss rs) c, ends_as p c old new ss rs found ran, alone c (events_at p ss) (answers_at p ss rs) (seen_alone p c old new ss rs found ran))
