-- Ports that take entries and are turned.
use Rattle.std.proofs.Common.{◌≡◌, ℕ, List, [], ◌∷◌, ◌++◌, length, set, ap, sym, ◌∙◌, subst, length-set}
use Rattle.std.specs.Prelude.{◌==◌, if◌then◌else◌, IfOk, Some, Result, Ok, Err, slice_get}
use Rattle.std.specs.Option.{option_map}
use Rattle.pon_descr.specs.declared.refusal.Refusal.{Refusal}
use Rattle.pon_admit.specs.declared.step.Step.{Step}
use Rattle.pon_state.specs.Entry.{Entry}
use Rattle.pon_history.specs.Chapters.{Chapter, chapter_after}
use Rattle.pon_history.specs.Taking.{Turns}
use Rattle.pon_plant.specs.Answers.{KeepsStep}
use Rattle.pon_plant.specs.Runs.{with_entries}
use Rattle.pon_plant.specs.Turning.{GivesChapters, KeepsChapters, TurnsPort}
use Rattle.pon_plant.proofs.Interleaving.{entries_at, map_with_more, map_with_none}
use Rattle.pon_plant.proofs.Stepping.{IsPort, answer_of, chapter_at}

pub keeps_here : (plant : List Chapter) → KeepsChapters plant plant
keeps_here plant port = ([], sym (map_with_none (slice_get plant port)))

pub keeps_same : (old new : List Chapter) → new ≡ old → KeepsChapters old new
keeps_same old new e = subst (KeepsChapters old) (sym e) (keeps_here old)

pub keeps_joined : (a b c : List Chapter) → KeepsChapters a b → KeepsChapters b c → KeepsChapters a c
keeps_joined a b c f s port =
    let first = f port in
    let second = s port in
    (first.0 ++ second.0, second.1 ∙ ap (option_map (with_entries second.0)) first.1 ∙ sym (map_with_more first.0 second.0 (slice_get a port)))

pub gives_after : (a b c : List Chapter) (turned : List (ℕ × Chapter)) → KeepsChapters a b → GivesChapters b turned c → GivesChapters a turned c
gives_after a b c [] k g = keeps_joined a b c k g
gives_after a b c (t ∷ turned) k g = (g.0, g.1, keeps_joined a b g.0 k g.2, g.3, g.4)

pub gives_joined : (a b c : List Chapter) (first second : List (ℕ × Chapter)) → GivesChapters a first b → GivesChapters b second c → GivesChapters a (first ++ second) c
gives_joined a b c [] second f s = gives_after a b c second f s
gives_joined a b c (t ∷ first) second f s = (f.0, f.1, f.2, f.3, gives_joined f.1 b c first second f.4 s)

-- a step adds an entry at its port
pub keeps_step : (old new : List Chapter) (s : Step) → KeepsStep old s new → KeepsChapters old new
keeps_step old new s k port =
    let entry : Entry = record { event = s.event; reply = k.keeps.reply } in (
      if s.port == port then entry ∷ [] else [],
      ap (λ (plant : List Chapter). slice_get plant port) (k.plant ∙ ap (set old s.port) k.keeps.takes.kept) ∙ entries_at old s.port port k.before (entry ∷ []) k.at,
    )

-- a port is turned
pub gives_turned : (old new : List Chapter) (port : ℕ) (chapter : Chapter) → TurnsPort old port chapter new → GivesChapters old ((port, chapter) ∷ []) new
gives_turned old new port chapter t = (old, new, keeps_here old, t, keeps_here new)

-- a turn leaves as many ports
pub turned_length : (old new : List Chapter) (port : ℕ) (chapter : Chapter) → TurnsPort old port chapter new → length new ≡ length old
turned_length old new port chapter t = ap length t.plant ∙ length-set old port _

-- what a turn of a port leaves, from the port's contract
pub turned_ok : {plant : List Chapter} {port i : ℕ} {c : Chapter} → IsPort plant port i c → (d : Chapter) (r : Result Chapter Refusal) → IfOk r (λ chapter. Turns c chapter d) →
    IfOk (answer_of r) (λ chapter. TurnsPort plant port chapter (set plant i d))
turned_ok {plant = plant} {port = port} at d (Ok chapter) t = record {
  at = chapter_at at ∙ ap Some (sym t.returned);
  plant = ap (λ n. set plant n d) at.number ∙ ap (set plant port) (t.begun ∙ ap chapter_after (sym t.returned));
}
turned_ok at d (Err told) t = tt
