use Rattle.std.proofs.Common.{sym, ◌∙◌, ◌+◌, ◌-◌, ap, length, true, false}
use Rattle.pon_admit.proofs.Refusals.{finds, refuses_change-absent, refuses_change-found}
use Rattle.pon_admit.proofs.roster.Roster.change_refusal.Goals as goal

pub returns-in_default : goal.returns-in_default
returns-in_default c =
    sym (refuses_change-absent c.args.alloc_id c.args.descriptor.now c.self.view_is c.deref.ensures.value c.in_default.ensures)

pub returns-then-not-fits : goal.returns-then-not-fits
returns-then-not-fits c =
    sym (refuses_change-found (finds c.args.alloc_id c.self.invariant c.self.view_is c.deref.ensures.value c.in-Some.ensures c.index.ensures) c.args.descriptor.now c.rate-promised.result c.len.result
    (c.rate-promised.ensures ∙ (λ j. c.get.ensures.value j - (c.get-2.ensures.value ∙ c.promised-former.ensures.sum) j + (c.get-3.ensures.value ∙ c.promised.ensures.sum) j)) (c.len.ensures ∙ sym c.deref.ensures.len ∙ ap (λ u. length u) c.deref.ensures.value)
    false (sym c.fits.ensures ∙ c.if-not-fits.true))

pub returns : goal.returns
returns c =
    sym (refuses_change-found (finds c.args.alloc_id c.self.invariant c.self.view_is c.deref.ensures.value c.in-Some.ensures c.index.ensures) c.args.descriptor.now c.rate-promised.result c.len.result
    (c.rate-promised.ensures ∙ (λ j. c.get.ensures.value j - (c.get-2.ensures.value ∙ c.promised-former.ensures.sum) j + (c.get-3.ensures.value ∙ c.promised.ensures.sum) j)) (c.len.ensures ∙ sym c.deref.ensures.len ∙ ap (λ u. length u) c.deref.ensures.value)
    true (sym c.fits.ensures ∙ c.if-not-fits.false))
