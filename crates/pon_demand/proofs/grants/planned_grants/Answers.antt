use Rattle.std.proofs.Common.{◌≡◌, ◌∙◌, ◌/◌, List, ap, arith, length, map, rules, take, ℕ}
use Rattle.std.specs.Prelude.{slice_index}
use Rattle.std.proofs.lemmas.List.{length-map, take_all}
use Rattle.pon_admit.specs.Roster.{left_over}
use Rattle.pon_admit.specs.declared.row.Row.{Row}
use Rattle.pon_demand.specs.Carries.{number_of}
use Rattle.pon_demand.specs.Demands.{demand_of}
use Rattle.pon_demand.specs.Sharing.{surplus_rate}
use Rattle.pon_demand.specs.declared.demand.Demand.{Demand}
use Rattle.pon_demand.proofs.Planning.{one_more, owed_here, owed_to, row_of}
use Rattle.pon_demand.proofs.RosterMaps.{granted_to_row}
use Rattle.pon_demand.proofs.grants.planned_grants.Goals as goal

pub next-surplus-requires : goal.next-surplus-requires
next-surplus-requires c =
    let o = row_of c.args.input.now c.args.demands.now c.demand-item.result c.loop-demand.demand-index c.requires.demands c.loop-demand-test.true c.demand-item.is in
    record { input = c.args.input.now; cert = c.args.cert.now; index = c.loop-demand.demand-index; row = o.row; shares_at = c.loop-demand.invariant.shares; here = o.here; is = o.is }

pub loop-demand-preserved : goal.loop-demand-preserved
loop-demand-preserved c =
    let s = c.args.input.now in
    let carries = c.args.former.now in
    let d = c.demand-item.result in
    let i : ℕ = c.loop-demand.demand-index in
    let o = row_of s c.args.demands.now d i c.requires.demands c.loop-demand-test.true c.demand-item.is in
    let rate = c.next-surplus.ensures.rate s c.args.cert.now i o.row c.loop-demand.invariant.shares o.here o.is in
    let carry : slice_index carries c.len.result ≡ slice_index carries i = ap (slice_index carries) (c.len.ensures ∙ c.loop-demand.invariant.count) in
    let owed : c.owed-owed.result ≡ owed_to s c.args.cert.now carries o.row
    = rw carry at c.owed-owed.ensures.value ∙ owed_here s c.args.cert.now carries c.requires.admitted.apart c.requires.carries.count d i o c.next-surplus.result.whole (c.next-surplus.ensures.whole ∙ ap (λ f. f.num / f.den) rate) in
    let rule : c.rule.result ≡ s.rule = c.rule.ensures ∙ ap (λ s. s.rule) c.input.view_is in
    record {
      shares = c.next-surplus.ensures.later s c.args.cert.now i o.row c.loop-demand.invariant.shares o.here o.is;
      granted = c.push_reserved.ensures.items ∙ one_more _ s.roster _ i o.row _ o.here (c.grant.ensures ∙ (λ j. record { onu = (o.is j).onu; alloc_id = (o.is j).alloc_id; words = owed j / 256 })) c.loop-demand.invariant.granted;
      left = c.push_reserved-in-loop-demand.ensures.items ∙ one_more _ s.roster _ i o.row _ o.here (c.left_over.ensures ∙ (λ j. left_over (rule j) (owed j))) c.loop-demand.invariant.left;
      count = search rules;
      room = search rules;
      count_carries = search rules;
      room_carries = search rules;
    }

pub bounds-former-len : goal.bounds-former-len
bounds-former-len c = omega (arith, c.len.ensures, c.loop-demand.invariant.count, ap (λ (ds : List Demand). length ds) c.requires.demands, length-map c.args.input.now.roster (demand_of c.args.input.now), c.requires.carries.count)

pub owed-owed-requires : goal.owed-owed-requires
owed-owed-requires c = c.next-surplus.ensures.within

pub grant-requires : goal.grant-requires
grant-requires c = c.owed-owed.ensures.range

pub returns-clause-grants : goal.returns-clause-grants
returns-clause-grants c =
    let s = c.args.input.now in
    let few : length s.roster ≡ length c.args.demands.now = omega (arith, ap (λ (ds : List Demand). length ds) c.requires.demands, length-map s.roster (demand_of s)) in
    let all : take c.loop-demand.demand-index s.roster ≡ s.roster = take_all c.loop-demand.demand-index s.roster (omega (arith, few)) in
    c.loop-demand.invariant.granted ∙ ap (map (granted_to_row s (surplus_rate s c.args.cert.now) (λ q. number_of s.roster c.args.former.now q.alloc_id))) all

pub returns-clause-carries : goal.returns-clause-carries
returns-clause-carries c =
    let s = c.args.input.now in
    let few : length s.roster ≡ length c.args.demands.now = omega (arith, ap (λ (ds : List Demand). length ds) c.requires.demands, length-map s.roster (demand_of s)) in
    let all : take c.loop-demand.demand-index s.roster ≡ s.roster = take_all c.loop-demand.demand-index s.roster (omega (arith, few)) in
    c.loop-demand.invariant.left ∙ ap (map (λ (r : Row). left_over s.rule (owed_to s c.args.cert.now c.args.former.now r))) all
