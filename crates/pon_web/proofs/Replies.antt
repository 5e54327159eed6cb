-- The replies to lines at ports that were just opened.
use Rattle.std.proofs.Common.{◌≡◌, ℕ, suc, zero, List, [], ◌∷◌, ◌++◌, refl, ap, sym, ◌∙◌, subst, inl, inr}
use Rattle.std.specs.Prelude.{⊤, Option, Some, None, Result, Ok, MatchResult, slice_get}
use Rattle.std.proofs.lemmas.List.{append-nil}
use Rattle.std.proofs.lemmas.Option.{none-some, same_Some}
use Rattle.pon_device.specs.Device.{IsAtEnd}
use Rattle.pon_admit.specs.declared.port_cfg.PortCfg.{PortCfg}
use Rattle.pon_state.specs.declared.reply.Reply.{Reply}
use Rattle.pon_history.specs.Chapters.{Chapter}
use Rattle.pon_plant.specs.declared.fault.StepFault.{StepFault}
use Rattle.pon_plant.specs.Plants.{opened_ports}
use Rattle.pon_plant.specs.Runs.{Ran}
use Rattle.pon_plant.proofs.Interleaving.{map_with_none}
use Rattle.pon_manage.specs.Planning.{PlannedAfter}
use Rattle.pon_manage.specs.Text.{IsOutput}

same_lists : {X : Type 0} (xs ys : List X) → ((i : ℕ) → slice_get xs i ≡ slice_get ys i) → xs ≡ ys
same_lists [] [] h = refl
same_lists [] (y ∷ ys) h = absurd (none-some y (h zero))
same_lists (x ∷ xs) [] h = absurd (none-some x (sym (h zero)))
same_lists (x ∷ xs) (y ∷ ys) h = ap (λ z. z ∷ xs) (same_Some x y (h zero)) ∙ ap (λ zs. y ∷ zs) (same_lists xs ys (λ i. h (suc i)))

-- no step leaves the ports as they are
unchanged : (ports start : List Chapter) (answers : List (Result Reply StepFault)) → Ran ports [] answers start → start ≡ ports
unchanged ports start answers ran = same_lists start ports (λ p. ran.chapters p ∙ map_with_none (slice_get ports p))

-- all lines were read, and what was written into empty memory is the text of them
pub replies : {T : Type 0} (ports : List (PortCfg × ℕ)) (end : T) (lines left taken : List ℕ) → PlannedAfter ports [] (Some lines) (Some left) (Some []) (Some taken) (Ok end) → IsAtEnd (Some left)
    → IsOutput (opened_ports ports) lines taken
replies ports end lines left taken (inl none) none_left = absurd (subst (λ r. MatchResult r (λ _. ⊤) (λ _. ⊥)) none.memory tt)
replies ports end lines left taken (inr p) none_left =
    let run = p.3 in
    let start_is : p.0 ≡ opened_ports ports = unchanged (opened_ports ports) p.0 p.2.0 p.2.1 in
    let input_is : run.input ≡ lines = sym (run.read ∙ ap (λ l. run.input ++ l) none_left ∙ append-nil run.input) in
    let of_input : IsOutput p.0 run.input run.written = (p.1, run.text) in
    let of_lines : IsOutput p.0 lines run.written = subst (λ i. IsOutput p.0 i run.written) input_is of_input in
    subst (λ s. IsOutput s lines taken) start_is (subst (λ w. IsOutput p.0 lines w) (sym run.wrote) of_lines)
