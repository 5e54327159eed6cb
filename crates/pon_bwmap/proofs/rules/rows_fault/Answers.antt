use Rattle.std.proofs.Common.{◌≡◌, ◌+◌, ◌-◌, ap, sym, ◌∙◌, arith}
use Rattle.pon_bwmap.specs.MapRules.{place_in_series}
use Rattle.pon_bwmap.proofs.SeriesRules.{first_place, at_structure, is_nothing, short, keep_more, first_fault, no_map}
use Rattle.pon_bwmap.proofs.rules.rows_fault.Goals as goal

pub loop-k-init : goal.loop-k-init
loop-k-init c = record {
  count = c.if-rows-gt-MAX_STRUCTURES.false;
  keep_rules = λ k lt. absurd (omega (arith, lt));
  place = sym (first_place c.args.rows.now);
  short = omega arith;
}

pub returns-then-is_some-clause-none : goal.returns-then-is_some-clause-none
returns-then-is_some-clause-none c =
    let n = c.next_place-place.ensures in
    let at = at_structure c.args.rows.now c.loop-k.k c.loop-k.place c.next_place-place.result c.index-rows-k.result c.start-start.result c.start_fault-fault.result (omega arith) c.index-rows-k.is
    c.start-start.ensures c.loop-k.invariant.place n.first n.starts n.continues c.start_fault-fault.ensures in
    (λ none. absurd (cc), λ map. no_map _ _ _ (omega arith) at.1 map)

pub returns-then-is_some-clause-fault : goal.returns-then-is_some-clause-fault
returns-then-is_some-clause-fault c =
    let n = c.next_place-place.ensures in
    let at = at_structure c.args.rows.now c.loop-k.k c.loop-k.place c.next_place-place.result c.index-rows-k.result c.start-start.result c.start_fault-fault.result (omega arith) c.index-rows-k.is
    c.start-start.ensures c.loop-k.invariant.place n.first n.starts n.continues c.start_fault-fault.ensures in
    first_fault _ _ c.start-start.result c.next_place-place.result _ c.loop-k.invariant.count (omega arith) c.loop-k.invariant.keep_rules at.1 c.start_fault-fault.ensures

pub loop-k-preserved : goal.loop-k-preserved
loop-k-preserved c =
    let n = c.next_place-place.ensures in
    let at = at_structure c.args.rows.now c.loop-k.k c.loop-k.place c.next_place-place.result c.index-rows-k.result c.start-start.result c.start_fault-fault.result (omega arith) c.index-rows-k.is
    c.start-start.ensures c.loop-k.invariant.place n.first n.starts n.continues c.start_fault-fault.ensures in
    let nothing = is_nothing c.start_fault-fault.result (cc) in
    let same : c.loop-k.k + 1 - 1 ≡ c.loop-k.k = omega arith in
    record {
      count = c.loop-k.invariant.count;
      keep_rules = keep_more _ _ c.loop-k.invariant.keep_rules (at.1 ∙ nothing);
      place = at.0 ∙ sym (ap (place_in_series c.args.rows.now) same);
      short = short c.loop-k.k c.start-start.result c.next_place-place.result n.starts (sym c.start_fault-fault.ensures ∙ nothing);
    }
