-- What a step leaves, from the port's contract.
use Rattle.std.proofs.Common.{◌≡◌, ℕ, ◌<◌, List, [], ◌∷◌, ◌++◌, length, get_or, set, refl, ap, sym, ◌∙◌, subst, arith, length-set, take, ◌+◌}
use Rattle.std.specs.Prelude.{IfErr, IfOk, IsErrAnd, MatchResult, OnErr, OnOk, Option, Some, Result, Ok, Err, slice_get}
use Rattle.std.proofs.lemmas.List.{map-append, set-get_or, take_more}
use Rattle.std.proofs.lemmas.List.Elements.{All-get_or, All-set}
use Rattle.std.proofs.lemmas.Option.{slice_get_read}
use Rattle.std.proofs.lemmas.Result.{err_from_is_err_and}
use Rattle.pon_descr.specs.Checks.{IsTold}
use Rattle.pon_descr.specs.declared.refusal.Refusal.{Refusal}
use Rattle.pon_admit.specs.declared.event.Event.{Event}
use Rattle.pon_admit.specs.declared.step.Step.{Step}
use Rattle.pon_state.specs.declared.reply.Reply.{Reply}
use Rattle.pon_admit.specs.declared.port_cfg.PortCfg.{PortCfg}
use Rattle.pon_history.specs.Chapters.{Chapter, IsLawfulChapter, present_state}
use Rattle.pon_history.specs.FairMaps.{TellsFairMap}
use Rattle.pon_history.specs.Taking.{Keeps, Takes, refusal_of}
use Rattle.pon_plant.specs.Plants.{IsPlant, opened_port, opened_ports}
use Rattle.pon_plant.specs.Answers.{IsStepAnswer, KeepsStep, after_accepted, after_step}
use Rattle.pon_plant.specs.Runs.{Ran}
use Rattle.pon_plant.specs.declared.fault.StepFault.{StepFault}
use Rattle.pon_plant.specs.declared.fault.StepFault.TheVariants.{Refused}
use Rattle.pon_plant.proofs.Interleaving.{one_more}

-- the port of this number stands at this index of the plant, with this chapter
pub record IsPort (plant : List Chapter) (port i : ℕ) (c : Chapter) : Type 0 where
  pub number : i ≡ port
  pub within : i < length plant
  pub is : c ≡ get_or plant i c

-- the result of a port as the answer to a step
abbrev pub answer_of : {T : Type 0} → Result T Refusal → Result T StepFault
answer_of (Ok reply) = Ok reply
answer_of (Err refusal) = Err (Refused refusal)

pub told_by : {T : Type 0} (r : Result T Refusal) (a : Result T StepFault) → MatchResult r (λ reply. a ≡ Ok reply) (λ refusal. IsErrAnd a (λ fault. fault ≡ Refused refusal)) → a ≡ answer_of r
told_by (Ok reply) a h = h
told_by (Err refusal) a h = let p = err_from_is_err_and a h in p.1 ∙ ap Err p.2

-- a chapter stays lawful if what is taken leaves it so
pub stays_lawful : {T : Type 0} (P : T → Type 0) (c d : Chapter) (r : Result T Refusal) → ((x : T) → P x → IsLawfulChapter d) → IsLawfulChapter c → IfOk r P → OnErr r (d ≡ c) → IsLawfulChapter d
stays_lawful P c d (Ok x) takes l taken kept = takes x taken
stays_lawful P c d (Err told) takes l taken kept = subst IsLawfulChapter (sym kept) l

-- What a port leaves in its plant, from its own contract.
module _ {plant : List Chapter} {port i : ℕ} {c : Chapter} (at : IsPort plant port i c) where
  pub chapter_at : slice_get plant port ≡ Some c
  chapter_at = subst (λ q. slice_get plant q ≡ Some c) at.number (slice_get_read plant (length plant) i c refl at.within at.is)

  pub was_lawful : IsPlant plant → IsLawfulChapter c
  was_lawful k = subst IsLawfulChapter (sym at.is) (All-get_or IsLawfulChapter plant i c at.within k.lawful)

  pub stays_plant : (d : Chapter) → IsPlant plant → IsLawfulChapter d → IsPlant (set plant i d)
  stays_plant d k l = record {
    size = (omega (arith, length-set plant i d, k.size), omega (arith, length-set plant i d, k.size));
    lawful = All-set IsLawfulChapter plant i d l k.lawful;
  }

  pub refused : {T : Type 0} (F : Option Chapter → StepFault → Type 0) (r : Result T Refusal) → IfErr r (λ told. F (Some c) (Refused told)) →
      IfErr (answer_of r) (λ fault. F (slice_get plant port) fault)
  refused F (Ok x) told = tt
  refused F (Err refusal) told = subst (λ o. F o (Refused refusal)) (sym chapter_at) told

  pub unchanged : {T : Type 0} (d : Chapter) (r : Result T Refusal) → OnErr r (d ≡ c) → OnErr (answer_of r) (set plant i d ≡ plant)
  unchanged d (Ok x) kept = tt
  unchanged d (Err refusal) kept = ap (set plant i) (kept ∙ at.is) ∙ set-get_or plant i c

module _ (s : Step) {plant : List Chapter} {i : ℕ} {c : Chapter} (at : IsPort plant s.port i c) (d : Chapter) where
  -- the result of the port is the answer to the step
  pub asked : (r : Result Reply Refusal) → IfOk r (λ reply. Takes c s.event reply d) → IfOk r (λ reply. TellsFairMap (present_state c) reply) → IfErr r (λ told. IsTold (refusal_of c s.event) told) →
      IsStepAnswer (slice_get plant s.port) s.event (answer_of r)
  asked (Ok reply) taken fair told = subst (λ o. IsStepAnswer o s.event (Ok reply)) (sym (chapter_at at)) (record { follows = taken.follows; fair = fair })
  asked (Err refusal) taken fair told = subst (λ o. IsStepAnswer o s.event (Err (Refused refusal))) (sym (chapter_at at)) told

  -- the new chapter at its port gives the plant after the step
  pub left : (r : Result Reply Refusal) → IfOk r (λ reply. Takes c s.event reply d) → OnErr r (d ≡ c) → set plant i d ≡ after_step plant s (answer_of r)
  left (Ok reply) taken kept = ap (λ n. set plant n d) at.number ∙ ap (set plant s.port) taken.kept ∙ sym (ap (after_accepted plant s reply) (chapter_at at))
  left (Err refusal) taken kept = unchanged at {T = Reply} d (Err refusal) kept

  pub kept_ok : {T : Type 0} (r : Result T Refusal) → OnOk r (Keeps c s.event d) → OnOk (answer_of r) (KeepsStep plant s (set plant i d))
  kept_ok (Ok _) ok = record { before = c; after = d; at = chapter_at at; keeps = ok; plant = ap (λ n. set plant n d) at.number }
  kept_ok (Err told) ok = tt

-- one more port is opened
pub one_more_port : (ports : List (PortCfg × ℕ)) (k : ℕ) (opened : List Chapter) (c : Chapter) (d : PortCfg × ℕ) → opened ≡ opened_ports (take k ports) → k < length ports →
    d ≡ get_or ports k d → c ≡ opened_port d → opened ++ c ∷ [] ≡ opened_ports (take (k + 1) ports)
one_more_port ports k opened c d so_far lt is e =
    ap (λ (cs : List Chapter). cs ++ c ∷ []) so_far
    ∙ ap (λ (last : Chapter). opened_ports (take k ports) ++ last ∷ []) (e ∙ ap opened_port is)
    ∙ sym (map-append opened_port (take k ports) (get_or ports k d ∷ []))
    ∙ ap opened_ports (sym (take_more ports k d lt))

-- one more step is taken, with a copy of its event
pub run_more : (old mid new : List Chapter) (steps : List Step) (answers : List (Result Reply StepFault)) (k : ℕ) (item : Step) (v : Event) (a : Result Reply StepFault) →
    Ran old (take k steps) answers mid → k < length steps → item ≡ get_or steps k item → v ≡ item.event → IsStepAnswer (slice_get mid item.port) v a →
    new ≡ after_step mid (record { port = item.port; event = v }) a → Ran old (take (k + 1) steps) (answers ++ a ∷ []) new
run_more old mid new steps answers k item v a ran lt is copied told after =
    let more : Ran old (take k steps ++ item ∷ []) (answers ++ a ∷ []) (after_step mid item a)
    = one_more old mid (take k steps) answers item a ran (subst (λ w. IsStepAnswer (slice_get mid item.port) w a) copied told) in
    let same : new ≡ after_step mid item a = after ∙ ap (λ (w : Event). after_step mid (record { port = item.port; event = w }) a) copied in
    subst (λ ss. Ran old ss (answers ++ a ∷ []) new) (ap (λ (s : Step). take k steps ++ s ∷ []) is ∙ sym (take_more steps k item lt))
    (subst (Ran old (take k steps ++ item ∷ []) (answers ++ a ∷ [])) (sym same) more)
