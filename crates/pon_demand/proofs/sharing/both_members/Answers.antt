use Rattle.std.proofs.Common.{◌∙◌, List, ap, map, rules}
use Rattle.std.specs.Prelude.{filter}
use Rattle.std.proofs.lemmas.List.{take_all}
use Rattle.pon_descr.specs.declared.class.Class.TheVariants.{NonAssured, BestEffort}
use Rattle.pon_demand.specs.Sharing.{same_class}
use Rattle.pon_demand.specs.declared.demand.Demand.{Demand}
use Rattle.pon_demand.proofs.MembersSoFar.{at_start, has_room, with_member, with_other}
use Rattle.pon_demand.proofs.sharing.both_members.Goals as goal
use Rattle.pon_demand.proofs.sharing.both_members.Goals.{in-Plain, in-NonAssured, in-BestEffort}

pub loop-demand-init : goal.loop-demand-init
loop-demand-init c = record {
  na = at_start NonAssured c.args.demands.now c.in_ok-na.na (search rules) (search rules) (search rules) (search rules);
  be = at_start BestEffort c.args.demands.now c.in_ok-be.be (search rules) (search rules) (search rules) (search rules);
}

pub loop-demand-preserved : goal.loop-demand-preserved
loop-demand-preserved c =
    let ds = c.args.demands.now in
    let i = c.loop-demand.demand-index in
    let d = c.demand-item.result in
    let na = with_other NonAssured ds i d c.loop-demand-test.true c.demand-item.is c.loop-demand.na c.loop-demand.invariant.na in
    let be = with_other BestEffort ds i d c.loop-demand-test.true c.demand-item.is c.loop-demand.be c.loop-demand.invariant.be in
    elim c.match-demand.branch [
      | in-Plain w ↦ rw (w.na-is, w.be-is) (record {
        na = na (ap (λ k. same_class k NonAssured) w.in-Plain.is);
        be = be (ap (λ k. same_class k BestEffort) w.in-Plain.is);
      })
      | in-NonAssured w ↦
          let of_class = ap (λ k. same_class k NonAssured) w.in-NonAssured.is in
          let now = w.add.ensures in
          rw (w.na-is, w.be-is) (record {
            na = with_member NonAssured ds i d c.loop-demand-test.true c.demand-item.is c.loop-demand.na w.add.new.self c.loop-demand.invariant.na of_class now.ids now.items now.room_for_ids now.room_for_items;
            be = be (ap (λ k. same_class k BestEffort) w.in-NonAssured.is);
          })
      | in-BestEffort w ↦
          let of_class = ap (λ k. same_class k BestEffort) w.in-BestEffort.is in
          let now = w.add-in-BestEffort.ensures in
          rw (w.na-is, w.be-is) (record {
            na = na (ap (λ k. same_class k NonAssured) w.in-BestEffort.is);
            be = with_member BestEffort ds i d c.loop-demand-test.true c.demand-item.is c.loop-demand.be w.add-in-BestEffort.new.self c.loop-demand.invariant.be of_class now.ids now.items now.room_for_ids now.room_for_items;
          })
    ]

pub add-requires : goal.add-requires
add-requires c =
    let room = has_room NonAssured c.args.demands.now c.loop-demand.demand-index c.demand-item.result c.loop-demand-test.true c.demand-item.is c.loop-demand.na c.loop-demand.invariant.na (ap (λ k. same_class k NonAssured) c.in-NonAssured.is) in
    record { ids = room.0; items = room.1 }

pub add-requires-in-BestEffort : goal.add-requires-in-BestEffort
add-requires-in-BestEffort c =
    let room = has_room BestEffort c.args.demands.now c.loop-demand.demand-index c.demand-item.result c.loop-demand-test.true c.demand-item.is c.loop-demand.be c.loop-demand.invariant.be (ap (λ k. same_class k BestEffort) c.in-BestEffort.is) in
    record { ids = room.0; items = room.1 }

pub returns : goal.returns
returns c =
    let all = take_all c.loop-demand.demand-index c.args.demands.now c.loop-demand-test.false in record {
      na_ids = c.loop-demand.invariant.na.ids ∙ ap (λ (ds : List Demand). map (λ d. d.alloc_id) (filter (λ d. same_class d.class NonAssured) ds)) all;
      na_items = c.loop-demand.invariant.na.items ∙ ap (λ (ds : List Demand). map (λ d. d.item) (filter (λ d. same_class d.class NonAssured) ds)) all;
      be_ids = c.loop-demand.invariant.be.ids ∙ ap (λ (ds : List Demand). map (λ d. d.alloc_id) (filter (λ d. same_class d.class BestEffort) ds)) all;
      be_items = c.loop-demand.invariant.be.items ∙ ap (λ (ds : List Demand). map (λ d. d.item) (filter (λ d. same_class d.class BestEffort) ds)) all;
    }
