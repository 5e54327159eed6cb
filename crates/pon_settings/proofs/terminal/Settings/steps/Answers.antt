use Rattle.std.proofs.Common.{◌≡◌, ℕ, ◌+◌, ◌<◌, ◌≤◌, List, ◌∷◌, ◌++◌, map, length, drop, get_or, add-one, append_assoc, ap, arith, subst, sym, ◌∙◌}
use Rattle.std.proofs.lemmas.List.{drop_more}
use Rattle.pon_units.specs.declared.limits.TheConstants.{MAX_PORTS}
use Rattle.pon_admit.specs.declared.step.Step.{Step}
use Rattle.pon_settings.specs.Ports.{PortSettings, admission, steps_from}
use Rattle.pon_settings.proofs.terminal.Settings.steps.Goals as goal

-- the steps of one more port
more_steps : (i : ℕ) (ports : List PortSettings) (p : PortSettings) (before after all : List Step) → i < length ports → p ≡ get_or ports i p → after ≡ before ++ map (admission i) p.rows →
    before ++ steps_from i (drop i ports) ≡ all → after ++ steps_from (i + 1) (drop (i + 1) ports) ≡ all
more_steps i ports p before after all lt here added so_far =
    let rest : List PortSettings = drop (i + 1) ports in
    let from : drop i ports ≡ p ∷ rest = drop_more ports i p lt ∙ ap (λ x. x ∷ rest) (sym here) in
    ap (λ l. l ++ steps_from (i + 1) rest) added ∙ append_assoc before (map (admission i) p.rows) (steps_from (i + 1) rest)
    ∙ ap (λ n. before ++ (map (admission i) p.rows ++ steps_from n rest)) (add-one i) ∙ ap (λ l. before ++ steps_from i l) (sym from) ∙ so_far

within : (i n m : ℕ) → i < n → n ≤ m → i < m
within i n m lt le = omega arith

pub at-requires : goal.at-requires
at-requires c =
    within c.loop-i.i (length c.self.inside.ports.items) MAX_PORTS (subst (λ l. c.loop-i.i < length l) c.deref-port-items.ensures.value c.loop-i-test.true) c.self.invariant.1

pub loop-i-preserved : goal.loop-i-preserved
loop-i-preserved c =
    let ports : c.deref-port-items.result.now ≡ c.args.self.now = c.deref-port-items.ensures.value ∙ c.self.view_is in
    more_steps c.loop-i.i c.args.self.now c.port-item.result c.loop-i.steps.items c.add_steps.new.steps.items (steps_from 0 c.args.self.now)
    (subst (λ l. c.loop-i.i < length l) ports c.loop-i-test.true)
    (c.port-item.is ∙ ap (λ l. get_or l c.loop-i.i c.port-item.result) ports)
    (c.in_ok-add_steps.ensures ∙ (λ j. c.loop-i.steps.items ++ map (admission (c.at.ensures j)) (c.rows.ensures j)))
    c.loop-i.invariant
