use Rattle.std.proofs.Common.{◌≡◌, ◌<◌, ℕ, arith, sym, ◌∙◌, ◌+◌, true, false}
use Rattle.pon_admit.proofs.Refusals.{refuses_allocs, refuses_onus, refuses_series, refuses_unfit, sees}
use Rattle.pon_admit.proofs.roster.Roster.admit_refusal.Goals as goal

few_here : {len most allowed : ℕ} → len < most → most ≡ allowed → len < allowed
few_here few is = omega (arith, few, is)

pub returns-then-allocs-most : goal.returns-then-allocs-most
returns-then-allocs-most c =
    sym (refuses_allocs (sees c.args.row.now c.self.invariant c.self.view_is c.deref.ensures.value c.look_through-seen.ensures.taken (c.len-allocs.ensures ∙ sym c.deref.ensures.len) c.look_through-seen.ensures.owned)
    c.if-seen.false (omega (arith, c.if-allocs-most.true, c.max_allocs-most.ensures.value)))

pub returns-then-onus-gt-MAX_ONUS : goal.returns-then-onus-gt-MAX_ONUS
returns-then-onus-gt-MAX_ONUS c =
    sym (refuses_onus (sees c.args.row.now c.self.invariant c.self.view_is c.deref.ensures.value c.look_through-seen.ensures.taken (c.len-allocs.ensures ∙ sym c.deref.ensures.len) c.look_through-seen.ensures.owned)
    c.if-seen.false (few_here c.if-allocs-most.false c.max_allocs-most.ensures.value) c.from.result c.from.ensures c.if-onus-gt-MAX_ONUS.true)

pub returns-then-seen-ge-MAX_SERIES : goal.returns-then-seen-ge-MAX_SERIES
returns-then-seen-ge-MAX_SERIES c =
    sym (refuses_series (sees c.args.row.now c.self.invariant c.self.view_is c.deref.ensures.value c.look_through-seen.ensures.taken (c.len-allocs.ensures ∙ sym c.deref.ensures.len) c.look_through-seen.ensures.owned)
    c.if-seen.false (few_here c.if-allocs-most.false c.max_allocs-most.ensures.value) c.from.result c.from.ensures c.if-onus-gt-MAX_ONUS.false c.if-seen-ge-MAX_SERIES.true)

pub returns-then-not-fits : goal.returns-then-not-fits
returns-then-not-fits c =
    sym (refuses_unfit (sees c.args.row.now c.self.invariant c.self.view_is c.deref.ensures.value c.look_through-seen.ensures.taken (c.len-allocs.ensures ∙ sym c.deref.ensures.len) c.look_through-seen.ensures.owned)
    c.if-seen.false (few_here c.if-allocs-most.false c.max_allocs-most.ensures.value) c.from.result c.rate-promised.result c.from.ensures c.if-onus-gt-MAX_ONUS.false c.if-seen-ge-MAX_SERIES.false
    (c.rate-promised.ensures ∙ (λ j. c.get.ensures.value j + (c.get-2.ensures.value ∙ c.promised.ensures.sum) j)) false (sym c.fits.ensures ∙ c.if-not-fits.true))

pub returns : goal.returns
returns c =
    sym (refuses_unfit (sees c.args.row.now c.self.invariant c.self.view_is c.deref.ensures.value c.look_through-seen.ensures.taken (c.len-allocs.ensures ∙ sym c.deref.ensures.len) c.look_through-seen.ensures.owned)
    c.if-seen.false (few_here c.if-allocs-most.false c.max_allocs-most.ensures.value) c.from.result c.rate-promised.result c.from.ensures c.if-onus-gt-MAX_ONUS.false c.if-seen-ge-MAX_SERIES.false
    (c.rate-promised.ensures ∙ (λ j. c.get.ensures.value j + (c.get-2.ensures.value ∙ c.promised.ensures.sum) j)) true (sym c.fits.ensures ∙ c.if-not-fits.false))
