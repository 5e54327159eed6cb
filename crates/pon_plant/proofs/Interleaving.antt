-- A run is its first step, which adds one entry at its own port if it is accepted, and the run of the others.
use Rattle.std.proofs.Common.{◌≡◌, ◌≢◌, ℕ, suc, zero, ◌==◌, true, false, cond, List, [], ◌∷◌, ◌++◌, map, take, set, refl, ap, sym, ◌∙◌, subst, arith, append_assoc, inl, inr}
use Rattle.std.specs.Prelude.{if◌then◌else◌, Option, Some, None, Result, Ok, Err, slice_get}
use Rattle.std.specs.List.{filter}
use Rattle.std.specs.Option.{option_map}
use Rattle.std.proofs.lemmas.Bool.Decides.{eqb_tells}
use Rattle.std.proofs.lemmas.List.{append-nil}
use Rattle.std.proofs.lemmas.Option.{none-some, same_Some}
use Rattle.pon_admit.specs.declared.step.Step.{Step}
use Rattle.pon_state.specs.Entry.{Entry}
use Rattle.pon_state.specs.declared.reply.Reply.{Reply}
use Rattle.pon_history.specs.Chapters.{Chapter}
use Rattle.pon_plant.specs.declared.fault.StepFault.{StepFault}
use Rattle.pon_plant.specs.Answers.{IsStepAnswer, after_accepted, after_step}
use Rattle.pon_plant.specs.Projections.{accepted, answers_at, entries_of, events_at}
use Rattle.pon_plant.specs.Runs.{Ran, chapter_after, with_entries}

-- Elements of lists.

pub slice_get-set_same : {X : Type 0} (xs : List X) (i : ℕ) (x y : X) → slice_get xs i ≡ Some x → slice_get (set xs i y) i ≡ Some y
slice_get-set_same [] i x y h = absurd (none-some x h)
slice_get-set_same (z ∷ xs) zero x y h = refl
slice_get-set_same (z ∷ xs) (suc i) x y h = slice_get-set_same xs i x y h

slice_get-set_other : {X : Type 0} (xs : List X) (i j : ℕ) (y : X) → j ≢ i → slice_get (set xs i y) j ≡ slice_get xs j
slice_get-set_other [] i j y h = refl
slice_get-set_other (z ∷ xs) zero zero y h = absurd (h refl)
slice_get-set_other (z ∷ xs) zero (suc j) y h = refl
slice_get-set_other (z ∷ xs) (suc i) zero y h = refl
slice_get-set_other (z ∷ xs) (suc i) (suc j) y h = slice_get-set_other xs i j y (λ e. h (ap suc e))

-- Chapters with more entries.

pub with_none : (c : Chapter) → with_entries [] c ≡ c
with_none c = ap (λ (es : List Entry). record { number = c.number; opening = c.opening; entries = es }) (append-nil c.entries)

pub with_more : (xs ys : List Entry) (c : Chapter) → with_entries (xs ++ ys) c ≡ with_entries ys (with_entries xs c)
with_more xs ys c = ap (λ (es : List Entry). record { number = c.number; opening = c.opening; entries = es }) (sym (append_assoc c.entries xs ys))

pub map_with_none : (o : Option Chapter) → option_map (with_entries []) o ≡ o
map_with_none None = refl
map_with_none (Some c) = ap Some (with_none c)

pub map_with_more : (xs ys : List Entry) (o : Option Chapter) → option_map (with_entries (xs ++ ys)) o ≡ option_map (with_entries ys) (option_map (with_entries xs) o)
map_with_more xs ys None = refl
map_with_more xs ys (Some c) = ap Some (with_more xs ys c)

-- entries that the port q of a plant gets, seen at the port p
pub entries_at : (plant : List Chapter) (q p : ℕ) (c : Chapter) (es : List Entry) → slice_get plant q ≡ Some c →
    slice_get (set plant q (with_entries es c)) p ≡ option_map (with_entries (if q == p then es else [])) (slice_get plant p)
entries_at plant q p c es found = elim (eqb_tells q p) [
  | inl e ↦ rw (e.0, ← e.1, found) (slice_get-set_same plant q c (with_entries es c) found)
  | inr n ↦ rw n.0 (slice_get-set_other plant q p (with_entries es c) (λ e. n.1 (sym e)) ∙ sym (map_with_none (slice_get plant p)))
]

-- The accepted steps of a port.

-- the entries that a step adds at the port
abbrev pub added : ℕ → Step → Result Reply StepFault → List Entry
added p s a = if s.port == p then entries_of (s.event ∷ []) (a ∷ []) else []

accepted-cons : (p : ℕ) (s : Step) (ss : List Step) (a : Result Reply StepFault) (rs : List (Result Reply StepFault)) → accepted p (s ∷ ss) (a ∷ rs) ≡ added p s a ++ accepted p ss rs
accepted-cons p s ss a rs = elim (s.port == p) as (λ b.
    entries_of (map (λ s. s.event) (cond b (s ∷ filter (λ s. s.port == p) ss) (filter (λ s. s.port == p) ss))) (if b then a ∷ answers_at p ss rs else answers_at p ss rs)
    ≡ (if b then entries_of (s.event ∷ []) (a ∷ []) else []) ++ accepted p ss rs) [
      | true ↦ one a
      | false ↦ refl
    ]
  where
    one : (a : Result Reply StepFault) → entries_of (s.event ∷ events_at p ss) (a ∷ answers_at p ss rs) ≡ entries_of (s.event ∷ []) (a ∷ []) ++ accepted p ss rs
    one (Ok reply) = refl
    one (Err fault) = refl

-- a step adds its accepted entry at its own port, and none at the others
pub after_step_at : (p : ℕ) (plant : List Chapter) (s : Step) (a : Result Reply StepFault) → IsStepAnswer (slice_get plant s.port) s.event a →
    slice_get (after_step plant s a) p ≡ option_map (with_entries (added p s a)) (slice_get plant p)
after_step_at p plant s (Err fault) h = elim (s.port == p) as (λ b. slice_get plant p ≡ option_map (with_entries (if b then [] else [])) (slice_get plant p)) [
  | true ↦ sym (map_with_none (slice_get plant p))
  | false ↦ sym (map_with_none (slice_get plant p))
]
after_step_at p plant s (Ok reply) h = (elim (slice_get plant s.port) as (λ o. slice_get plant s.port ≡ o → IsStepAnswer o s.event (Ok reply) →
    slice_get (after_accepted plant s reply o) p ≡ option_map (with_entries (added p s (Ok reply))) (slice_get plant p)) [
      | None ↦ λ found none. absurd (cc)
      | Some c ↦ λ found taken. entries_at plant s.port p c (record { event = s.event; reply = reply } ∷ []) found
    ]) refl h

-- The first step of a run, and the others.

pub first_answer : {old new : List Chapter} {s : Step} {ss : List Step} {a : Result Reply StepFault} {rs : List (Result Reply StepFault)} →
    Ran old (s ∷ ss) (a ∷ rs) new → IsStepAnswer (slice_get old s.port) s.event a
first_answer {old = old} {s = s} {a = a} ran = subst (λ o. IsStepAnswer o s.event a) (map_with_none (slice_get old s.port)) (ran.answered zero s a refl refl)

module _ (old : List Chapter) (s : Step) (a : Result Reply StepFault) (answer : IsStepAnswer (slice_get old s.port) s.event a) where
  first_left : (p : ℕ) (ss : List Step) (rs : List (Result Reply StepFault)) → chapter_after (after_step old s a) p ss rs ≡ chapter_after old p (s ∷ ss) (a ∷ rs)
  first_left p ss rs =
      ap (option_map (with_entries (accepted p ss rs))) (after_step_at p old s a answer) ∙ sym (map_with_more (added p s a) (accepted p ss rs) (slice_get old p))
      ∙ ap (λ (es : List Entry). option_map (with_entries es) (slice_get old p)) (sym (accepted-cons p s ss a rs))

  module _ (ss : List Step) (rs : List (Result Reply StepFault)) (new : List Chapter) where
    pub run_first : Ran (after_step old s a) ss rs new → Ran old (s ∷ ss) (a ∷ rs) new
    run_first ran = record { one_each = ap suc ran.one_each; answered = each; chapters = λ p. ran.chapters p ∙ first_left p ss rs }
      where
        each : (k : ℕ) (t : Step) (b : Result Reply StepFault) → slice_get (s ∷ ss) k ≡ Some t → slice_get (a ∷ rs) k ≡ Some b →
            IsStepAnswer (chapter_after old t.port (take k (s ∷ ss)) (take k (a ∷ rs))) t.event b
        each zero t b at told = rw (← same_Some s t at, ← same_Some a b told) (subst (λ o. IsStepAnswer o s.event a) (sym (map_with_none (slice_get old s.port))) answer)
        each (suc k) t b at told = subst (λ o. IsStepAnswer o t.event b) (first_left t.port (take k ss) (take k rs)) (ran.answered k t b at told)

    pub run_rest : Ran old (s ∷ ss) (a ∷ rs) new → Ran (after_step old s a) ss rs new
    run_rest ran = record {
      one_each = omega (arith, ran.one_each);
      answered = λ k t b at told. subst (λ o. IsStepAnswer o t.event b) (sym (first_left t.port (take k ss) (take k rs))) (ran.answered (suc k) t b at told);
      chapters = λ p. ran.chapters p ∙ sym (first_left p ss rs);
    }

pub no_steps : (old new : List Chapter) → ((p : ℕ) → slice_get new p ≡ slice_get old p) → Ran old [] [] new
no_steps old new same = record { one_each = refl; answered = λ k s a at told. absurd (none-some s at); chapters = λ p. same p ∙ sym (map_with_none (slice_get old p)) }

pub one_more : (old mid : List Chapter) (ss : List Step) (rs : List (Result Reply StepFault)) (s : Step) (a : Result Reply StepFault) →
    Ran old ss rs mid → IsStepAnswer (slice_get mid s.port) s.event a → Ran old (ss ++ s ∷ []) (rs ++ a ∷ []) (after_step mid s a)
one_more old mid [] [] s a ran answer = run_first old s a here [] [] (after_step mid s a) (no_steps (after_step old s a) (after_step mid s a)
    (λ p. after_step_at p mid s a answer ∙ ap (option_map (with_entries (added p s a))) (same p) ∙ sym (after_step_at p old s a here)))
  where
    same : (p : ℕ) → slice_get mid p ≡ slice_get old p
    same p = ran.chapters p ∙ map_with_none (slice_get old p)

    here : IsStepAnswer (slice_get old s.port) s.event a
    here = subst (λ o. IsStepAnswer o s.event a) (same s.port) answer
one_more old mid [] (b ∷ rs) s a ran answer = absurd (omega (arith, ran.one_each))
one_more old mid (t ∷ ss) [] s a ran answer = absurd (omega (arith, ran.one_each))
one_more old mid (t ∷ ss) (b ∷ rs) s a ran answer =
    run_first old t b (first_answer ran) (ss ++ s ∷ []) (rs ++ a ∷ []) (after_step mid s a) (one_more (after_step old t b) mid ss rs s a (run_rest old t b (first_answer ran) ss rs mid ran) answer)
