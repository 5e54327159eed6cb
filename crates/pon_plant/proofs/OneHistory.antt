-- The history of a port depends on its own steps alone.
use Rattle.std.proofs.Common.{◌≡◌, ◌≢◌, ℕ, ◌==◌, true, false, List, [], ◌∷◌, length, map, take, refl, ap, sym, ◌∙◌, subst, arith, inl, inr}
use Rattle.std.specs.Prelude.{◌↔◌, ◌≤◌, cond, if◌then◌else◌, Option, Some, None, Result, Ok, Err, slice_get}
use Rattle.std.specs.List.{filter}
use Rattle.std.specs.Option.{option_map}
use Rattle.std.proofs.lemmas.Bool.{eqb-true}
use Rattle.std.proofs.lemmas.List.Elements.{All-head, All-tail}
use Rattle.std.proofs.lemmas.Option.{slice_get_cases}
use Rattle.pon_descr.specs.Checks.{IsTold}
use Rattle.pon_descr.specs.declared.refusal.Refusal.{Refusal}
use Rattle.pon_descr.specs.declared.refusal.Refusal.TheVariants.{OutOfMemory}
use Rattle.pon_admit.specs.declared.event.Event.{Event}
use Rattle.pon_admit.specs.declared.step.Step.{Step}
use Rattle.pon_state.specs.Entry.{Entry}
use Rattle.pon_state.specs.declared.reply.Reply.{Reply}
use Rattle.pon_history.specs.Chapters.{Chapter, IsLawfulChapter}
use Rattle.pon_history.specs.Taking.{Takes, refusal_of, with_entry}
use Rattle.pon_history.proofs.OneReply.{one_taken, taken_lawful}
use Rattle.pon_plant.specs.declared.fault.StepFault.{StepFault}
use Rattle.pon_plant.specs.declared.fault.StepFault.TheVariants.{NoSuchPort, Refused}
use Rattle.pon_plant.specs.Answers.{IsAccepted, IsStepAnswer, NoneIsOutOfMemory, after_step}
use Rattle.pon_plant.specs.Projections.{accepted, answers_at, entries_of, events_at}
use Rattle.pon_plant.specs.Runs.{Ran, RanFrom, with_entries}
use Rattle.pon_plant.proofs.Interleaving.{added, after_step_at, first_answer, run_rest, with_none}

-- One port alone.

-- the chapter after an event and its answer
abbrev pub after_answer : Chapter → Event → Result Reply StepFault → Chapter
after_answer c v a = with_entries (entries_of (v ∷ []) (a ∷ [])) c

-- events at a port alone, each with its answer
abbrev pub Answered : Chapter → List Event → List (Result Reply StepFault) → Type 0
Answered c [] [] = Unit {0}
Answered c [] (a ∷ rs) = ⊥
Answered c (v ∷ vs) [] = ⊥
Answered c (v ∷ vs) (a ∷ rs) = IsStepAnswer (Some c) v a × Answered (after_answer c v a) vs rs

taken : (c : Chapter) (v : Event) (reply : Reply) → IsAccepted c v reply → Takes c v reply (with_entry c v reply)
taken c v reply h = record { follows = h.follows; kept = refl }

one_told : (q : Option Refusal) (a b : Refusal) → IsTold q a → IsTold q b → a ≡ b
one_told None a b h k = h ∙ sym k
one_told (Some r) a b h k = h ∙ sym k

-- if no check refuses, the only refusal is that of memory
not_refused : (c : Chapter) (v : Event) (told : Refusal) → refusal_of c v ≡ None → IsTold (refusal_of c v) told → told ≡ OutOfMemory
not_refused c v told e h = subst (λ q. IsTold q told) e h

one_answer : (c : Chapter) (v : Event) (a b : Result Reply StepFault) → IsLawfulChapter c → IsStepAnswer (Some c) v a → IsStepAnswer (Some c) v b →
    a ≢ Err (Refused OutOfMemory) → b ≢ Err (Refused OutOfMemory) → a ≡ b
one_answer c v (Ok x) (Ok y) l h k na nb = ap Ok (one_taken c (with_entry c v x) (with_entry c v y) v x y l (taken c v x h) (taken c v y k)).0
one_answer c v (Ok x) (Err NoSuchPort) l h k na nb = absurd k
one_answer c v (Ok x) (Err (Refused told)) l h k na nb = absurd (nb (ap (λ t. Err (Refused t)) (not_refused c v told h.follows.accepted k)))
one_answer c v (Err NoSuchPort) b l h k na nb = absurd h
one_answer c v (Err (Refused told)) (Ok y) l h k na nb = absurd (na (ap (λ t. Err (Refused t)) (not_refused c v told k.follows.accepted h)))
one_answer c v (Err (Refused told)) (Err NoSuchPort) l h k na nb = absurd k
one_answer c v (Err (Refused told)) (Err (Refused other)) l h k na nb = ap (λ t. Err (Refused t)) (one_told (refusal_of c v) told other h k)

stays_lawful : (c : Chapter) (v : Event) (a : Result Reply StepFault) → IsLawfulChapter c → IsStepAnswer (Some c) v a → IsLawfulChapter (after_answer c v a)
stays_lawful c v (Ok reply) l h = taken_lawful c (with_entry c v reply) v reply l (taken c v reply h)
stays_lawful c v (Err fault) l h = subst IsLawfulChapter (sym (with_none c)) l

one_history : (c : Chapter) (vs : List Event) (rs bs : List (Result Reply StepFault)) → IsLawfulChapter c → Answered c vs rs → Answered c vs bs →
    NoneIsOutOfMemory rs → NoneIsOutOfMemory bs → rs ≡ bs
one_history c [] [] [] l h k na nb = refl
one_history c [] [] (b ∷ bs) l h k na nb = absurd k
one_history c [] (a ∷ rs) bs l h k na nb = absurd h
one_history c (v ∷ vs) [] bs l h k na nb = absurd h
one_history c (v ∷ vs) (a ∷ rs) [] l h k na nb = absurd k
one_history c (v ∷ vs) (a ∷ rs) (b ∷ bs) l h k na nb =
    let same : a ≡ b = one_answer c v a b l h.0 k.0 (All-head (λ answer. answer ≢ Err (Refused OutOfMemory)) a rs na) (All-head (λ answer. answer ≢ Err (Refused OutOfMemory)) b bs nb) in
    let rest : rs ≡ bs = one_history (after_answer c v a) vs rs bs (stays_lawful c v a l h.0) h.1
    (subst (λ x. Answered (after_answer c v x) vs bs) (sym same) k.1)
    (All-tail (λ answer. answer ≢ Err (Refused OutOfMemory)) a rs na) (All-tail (λ answer. answer ≢ Err (Refused OutOfMemory)) b bs nb) in
    (λ i. same i ∷ rest i)

-- A port of a plant.

pub seen_alone : (p : ℕ) (c : Chapter) (old new : List Chapter) (ss : List Step) (rs : List (Result Reply StepFault)) →
    slice_get old p ≡ Some c → Ran old ss rs new → Answered c (events_at p ss) (answers_at p ss rs)
seen_alone p c old new [] [] found ran = tt
seen_alone p c old new [] (a ∷ rs) found ran = absurd (omega (arith, ran.one_each))
seen_alone p c old new (s ∷ ss) [] found ran = absurd (omega (arith, ran.one_each))
seen_alone p c old new (s ∷ ss) (a ∷ rs) found ran =
    let rest : Ran (after_step old s a) ss rs new = run_rest old s a (first_answer ran) ss rs new ran in
    (elim (s.port == p) as (λ b. (s.port == p) ≡ b → slice_get (after_step old s a) p ≡ Some (with_entries (if b then entries_of (s.event ∷ []) (a ∷ []) else []) c) →
    Answered c (map (λ s. s.event) (cond b (s ∷ filter (λ s. s.port == p) ss) (filter (λ s. s.port == p) ss))) (if b then a ∷ answers_at p ss rs else answers_at p ss rs)) [
      | true ↦ λ e left. (
        subst (λ o. IsStepAnswer o s.event a) (ap (slice_get old) (eqb-true s.port p e) ∙ found) (first_answer ran),
        seen_alone p (after_answer c s.event a) (after_step old s a) new ss rs left rest,
      )
      | false ↦ λ e left. seen_alone p c (after_step old s a) new ss rs (left ∙ ap Some (with_none c)) rest
    ]) refl (after_step_at p old s a (first_answer ran) ∙ ap (option_map (with_entries (added p s a))) found)

pub ends_as : (p : ℕ) (c : Chapter) (old new : List Chapter) (ss : List Step) (rs : List (Result Reply StepFault)) →
    slice_get old p ≡ Some c → Ran old ss rs new → slice_get new p ≡ Some (with_entries (accepted p ss rs) c)
ends_as p c old new ss rs found ran = ran.chapters p ∙ ap (option_map (with_entries (accepted p ss rs))) found

-- Two runs in which a port has the same steps.
module _ (p : ℕ) (c : Chapter) (old old2 new new2 : List Chapter) (ss ss2 : List Step) (rs rs2 : List (Result Reply StepFault)) (lawful : IsLawfulChapter c)
    (same : events_at p ss ≡ events_at p ss2) (one : RanFrom p c old ss rs new) (two : RanFrom p c old2 ss2 rs2 new2) where
  pub same_answers : answers_at p ss rs ≡ answers_at p ss2 rs2
  same_answers = one_history c (events_at p ss) (answers_at p ss rs) (answers_at p ss2 rs2) lawful (seen_alone p c old new ss rs one.begins one.ran)
      (subst (λ vs. Answered c vs (answers_at p ss2 rs2)) (sym same) (seen_alone p c old2 new2 ss2 rs2 two.begins two.ran)) one.memory two.memory

  pub same_chapter : slice_get new p ≡ slice_get new2 p
  same_chapter =
      let entries : accepted p ss rs ≡ accepted p ss2 rs2 = (λ i. entries_of (same i) (same_answers i)) in
      ends_as p c old new ss rs one.begins one.ran
      ∙ ap (λ (es : List Entry). Some (with_entries es c)) entries
      ∙ sym (ends_as p c old2 new2 ss2 rs2 two.begins two.ran)

-- The steps at ports that a plant does not have.

pub no_such_port : (old new : List Chapter) (ss : List Step) (rs : List (Result Reply StepFault)) (k : ℕ) (s : Step) (a : Result Reply StepFault) → Ran old ss rs new →
    slice_get ss k ≡ Some s → slice_get rs k ≡ Some a → (a ≡ Err NoSuchPort) ↔ (length old ≤ s.port)
no_such_port old new ss rs k s a ran at told =
    let es : List Entry = accepted s.port (take k ss) (take k rs) in
    elim (slice_get_cases old s.port).1 [
      | inl one ↦ (
        λ e. absurd (subst (λ b. IsStepAnswer (Some (with_entries es one.0)) s.event b) e (subst (λ o. IsStepAnswer (option_map (with_entries es) o) s.event a) one.2 (ran.answered k s a at told))),
        λ le. absurd (omega (arith, le, one.1)),
      )
      | inr none ↦ (λ _. none.0, λ _. subst (λ o. IsStepAnswer (option_map (with_entries es) o) s.event a) none.1 (ran.answered k s a at told))
    ]
