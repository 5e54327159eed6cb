use Rattle.std.proofs.Common.{◌≡◌, ◌∙◌, ap, length, subst, sym}
use Rattle.std.specs.Prelude.{if◌then◌else◌, Option, Some, None}
use Rattle.pon_admit.proofs.OneRow.{has_alloc-none, has_alloc-there}
use Rattle.pon_demand.specs.Carries.{number_of}
use Rattle.pon_state.specs.State.{carry_of}
use Rattle.pon_state.proofs.CarryPlaces.{carry_found}
use Rattle.pon_state.proofs.state.PortState.carry.Goals as goal

pub returns-in_err-place-clause-value : goal.returns-in_err-place-clause-value
returns-in_err-place-clause-value c =
    let st = c.self.inside in
    let i = c.args.alloc_id in
    let absent = has_alloc-none i st.roster.rows (sym c.in_err-place.ensures) in
    c.from_residual.ensures
    ∙ sym (ap (λ b. if b then Some (number_of st.roster.rows st.carries.items i) else None) absent)
    ∙ ap (λ s. carry_of s i) c.self.view_is

pub returns-clause-value : goal.returns-clause-value
returns-clause-value c =
    let st = c.self.inside in
    let i = c.args.alloc_id in
    let k = c.in_ok-place.place in
    let count : length st.carries.items ≡ length st.roster.rows = subst (λ s. length s.carries ≡ length s.roster) (sym c.self.view_is) c.requires.count in
    let there = has_alloc-there i k st.roster.rows (sym c.in_ok-place.ensures) in
    ap Option.Some (c.index.ensures ∙ carry_found i k c.index.result.now st.roster.rows st.carries.items count (sym c.in_ok-place.ensures))
    ∙ sym (ap (λ b. if b then Some (number_of st.roster.rows st.carries.items i) else None) there)
    ∙ ap (λ s. carry_of s i) c.self.view_is
