use Rattle.std.proofs.Common.{◌≡◌, length, ap, sym, ◌∙◌, rules}
use Rattle.std.specs.Prelude.{sum, IsOk, ◌↔◌}
use Rattle.std.specs.List.{AllZip}
use Rattle.pon_cert.specs.Certificate.{RuleHolds, DenominatorHolds, IsCertificate, spelled}
use Rattle.pon_check.specs.Faults.{IsAligned, KeepsRules}
use Rattle.pon_check.proofs.Verdicts.{not_as_long, not_by_rule, item_fault, accepted, first_fault, fairest, only}
use Rattle.pon_check.proofs.class.check_class.Goals as goal

pub returns-then-items-saturated-clause-accepted : goal.returns-then-items-saturated-clause-accepted
returns-then-items-saturated-clause-accepted c =
    (λ e. absurd cc, λ h. absurd (not_as_long c.args.items.now c.args.surplus c.args.cert.now (λ e. c.if-items-saturated.true (e ∙ ap length (sym c.as_slice-saturated.ensures))) h))

pub returns-in-Some-clause-accepted : goal.returns-in-Some-clause-accepted
returns-in-Some-clause-accepted c =
    let fails = rw c.as_slice-saturated.ensures at c.in-Some.ensures.some.2 in
    (λ e. absurd cc, λ h. absurd (not_by_rule c.args.items.now c.args.surplus c.args.cert.now c.in-Some.i c.in-Some.ensures.some.1 fails h))

pub returns-in-Some-clause-fault : goal.returns-in-Some-clause-fault
returns-in-Some-clause-fault c =
    let fails = rw c.as_slice-saturated.ensures at c.in-Some.ensures.some.2 in
    let holds : DenominatorHolds c.args.cert.now.level c.args.items.now c.as_slice-saturated.result.now = search rules in
    let aligned : IsAligned c.args.items.now c.args.cert.now = record {
      lengths = c.if-items-saturated.false ∙ ap length c.as_slice-saturated.ensures;
      denominator = rw c.as_slice-saturated.ensures at holds;
    } in
    rw (c.item_fault.ensures, c.as_slice-saturated.ensures) (item_fault c.args.items.now c.args.surplus c.args.cert.now c.in-Some.i c.in-Some.ensures.some.1 aligned fails)

keeps : (c : goal.After-check_sum) → KeepsRules c.args.items.now c.args.cert.now
keeps c =
    let holds : DenominatorHolds c.args.cert.now.level c.args.items.now c.as_slice-saturated.result.now = search rules in
    let all : AllZip (RuleHolds c.args.cert.now.level) c.args.items.now c.as_slice-saturated.result.now = c.in_default.ensures.none in
    record {
      aligned = record { lengths = c.if-items-saturated.false ∙ ap length c.as_slice-saturated.ensures; denominator = rw c.as_slice-saturated.ensures at holds };
      rules = rw c.as_slice-saturated.ensures at all;
    }

total_is : (c : goal.After-check_sum) → c.total_of-total.result ≡ sum (spelled c.args.items.now c.args.cert.now).amounts
total_is c = rw c.as_slice-saturated.ensures at c.total_of-total.ensures

accepted_is : (c : goal.After-check_sum) → IsOk c.check_sum.result ↔ IsCertificate c.args.items.now c.args.surplus c.args.cert.now
accepted_is c = accepted c.args.items.now c.args.surplus c.args.cert.now c.check_sum.result (keeps c) (rw (total_is c) at c.check_sum.ensures.ok)

pub returns-clause-accepted : goal.returns-clause-accepted
returns-clause-accepted c = accepted_is c

pub returns-clause-fault : goal.returns-clause-fault
returns-clause-fault c = first_fault c.args.items.now c.args.surplus c.args.cert.now c.check_sum.result (keeps c) (rw (total_is c) at c.check_sum.ensures.fault)

pub returns-clause-fairest : goal.returns-clause-fairest
returns-clause-fairest c = fairest c.args.items.now c.args.surplus c.args.cert.now c.check_sum.result c.requires (accepted_is c)

pub returns-clause-only : goal.returns-clause-only
returns-clause-only c = only c.args.items.now c.args.surplus c.args.cert.now c.check_sum.result c.requires (accepted_is c)
