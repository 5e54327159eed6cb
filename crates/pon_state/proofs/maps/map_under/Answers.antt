use Rattle.std.proofs.Common.{◌≡◌, ◌∙◌, ◌≤◌, ap}
use Rattle.pon_admit.specs.Roster.{max_carry}
use Rattle.pon_admit.specs.declared.row.Row.{Row}
use Rattle.pon_burst.specs.Maps.{map_granting}
use Rattle.pon_demand.specs.Carries.{number_of}
use Rattle.pon_demand.specs.Maps.{map_of}
use Rattle.pon_demand.specs.Rates.{carried, planned_grants}
use Rattle.pon_demand.specs.Sharing.{surplus_rate}
use Rattle.pon_demand.proofs.Carries.{carry_within}
use Rattle.pon_demand.proofs.RosterMaps.{in_order, one_map}
use Rattle.pon_state.specs.State.{carry_at, input_of}
use Rattle.pon_state.proofs.KeptMaps.{kept_of_map}
use Rattle.pon_state.proofs.maps.map_under.Goals as goal

pub pack_grants-requires : goal.pack_grants-requires
pack_grants-requires c =
    let s = c.args.state.now in
    let input = input_of s in
    let cert = c.args.cert.now in
    let read : c.new-input.result ≡ input = c.new-input.ensures ∙ ap input_of c.state.view_is in
    let carries : c.deref.result.now ≡ s.carries = c.deref.ensures.value ∙ ap (λ s. s.carries) c.state.view_is in
    let gap : c.gap.result ≡ input.gap = c.gap.ensures ∙ ap (λ s. s.gap) c.state.view_is in
    let small : (r : Row) → carry_at s r ≤ max_carry s.rule = λ r. carry_within (max_carry s.rule) s.roster s.carries r.alloc_id c.requires.carries.range in
    let grants : c.deref-2.result.now ≡ planned_grants input (surplus_rate input cert) (carry_at s)
    = c.deref-2.ensures.value ∙ c.in_ok-grants.ensures.grants ∙ (λ j. planned_grants (read j) (surplus_rate (read j) cert) (λ r. number_of (read j).roster (carries j) r.alloc_id)) in
    rw (gap, grants) (one_map input cert (carry_at s) c.requires.admitted c.requires.certified small)

pub returns-clause-map_order : goal.returns-clause-map_order
returns-clause-map_order c =
    let s = c.args.state.now in
    let input = input_of s in
    let cert = c.args.cert.now in
    let read : c.new-input.result ≡ input = c.new-input.ensures ∙ ap input_of c.state.view_is in
    let carries : c.deref.result.now ≡ s.carries = c.deref.ensures.value ∙ ap (λ s. s.carries) c.state.view_is in
    let grants : c.in_ok-grants.field-0.grants.items ≡ planned_grants input (surplus_rate input cert) (carry_at s)
    = c.in_ok-grants.ensures.grants ∙ (λ j. planned_grants (read j) (surplus_rate (read j) cert) (λ r. number_of (read j).roster (carries j) r.alloc_id)) in
    rw grants (in_order input (surplus_rate input cert) (carry_at s) input.roster c.requires.admitted.in_map_order)

pub returns-clause-grants : goal.returns-clause-grants
returns-clause-grants c =
    let s = c.args.state.now in
    let input = input_of s in
    let cert = c.args.cert.now in
    let read : c.new-input.result ≡ input = c.new-input.ensures ∙ ap input_of c.state.view_is in
    let carries : c.deref.result.now ≡ s.carries = c.deref.ensures.value ∙ ap (λ s. s.carries) c.state.view_is in
    let grants : c.in_ok-grants.field-0.grants.items ≡ planned_grants input (surplus_rate input cert) (carry_at s)
    = c.in_ok-grants.ensures.grants ∙ (λ j. planned_grants (read j) (surplus_rate (read j) cert) (λ r. number_of (read j).roster (carries j) r.alloc_id)) in
    let told : c.in_ok-map.map ≡ map_of s.profile input (surplus_rate input cert) (carry_at s)
    = c.in_ok-map.ensures ∙ (λ j. map_granting ((c.gap.ensures ∙ ap (λ s. s.gap) c.state.view_is) j) ((c.state.view_is j).profile) ((c.deref-2.ensures.value ∙ grants) j)) in
    kept_of_map s.profile input (surplus_rate input cert) (carry_at s) c.in_ok-map.map _ told grants

pub returns-clause-carries : goal.returns-clause-carries
returns-clause-carries c =
    let s = c.args.state.now in
    let cert = c.args.cert.now in
    let read : c.new-input.result ≡ input_of s = c.new-input.ensures ∙ ap input_of c.state.view_is in
    let carries : c.deref.result.now ≡ s.carries = c.deref.ensures.value ∙ ap (λ s. s.carries) c.state.view_is in
    c.in_ok-grants.ensures.carries ∙ (λ j. carried (read j) (surplus_rate (read j) cert) (λ r. number_of (read j).roster (carries j) r.alloc_id))
