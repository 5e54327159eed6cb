use Rattle.std.proofs.Common.{◌≡◌, ◌+◌, true, false, ap, sym, ◌∙◌, arith}
use Rattle.std.specs.Option.{option_eq}
use Rattle.std.specs.Prelude.{◌==◌, if◌then◌else◌, Some, None}
use Rattle.std.proofs.lemmas.List.{get_or_default}
use Rattle.pon_units.specs.declared.Granted.{Granted}
use Rattle.pon_burst.proofs.MapRules.{at as nth, blank, last, next}
use Rattle.pon_burst.proofs.layout.Layout.structure.Goals as goal

pub returns : goal.returns
returns c = λ grants k order lt is at.
    let r : Granted = c.args.granted.now in
    let r_is : nth grants k ≡ r = get_or_default grants k blank r lt ∙ sym is in
    let here = next c.args.gap c.args.profile grants order k lt c.args.self.now.last at.last in
    let start = c.begin-start.ensures.start ∙ ap (λ n. if option_eq (λ a b. a == b) c.args.self.now.last (Some r.onu) then None else Some n) at.end ∙ sym (rw r_is at here.start) in (
      c.polled.ensures ∙ (λ i. record { id = c.get.ensures.value i; dbru = true; ploam = false; start = start i; grant = 1 + c.get-grant.ensures.value i; fwi = false; profile = c.get-2.ensures.value i }),
      record { end = omega (arith, c.begin-start.ensures.end, at.end, rw r_is at here.words, c.get-grant.ensures.value); last = rw (c.begin-start.ensures.last, ← r_is) (last grants k lt) },
    )
