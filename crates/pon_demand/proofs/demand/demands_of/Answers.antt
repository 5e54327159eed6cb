use Rattle.std.proofs.Common.{◌≡◌, ◌∙◌, ◌++◌, ◌∷◌, [], ap, arith, map, rules, sym}
use Rattle.std.proofs.lemmas.List.{map_more, take_all}
use Rattle.pon_demand.specs.Demands.{demand_of}
use Rattle.pon_demand.proofs.demand.demands_of.Goals as goal

pub loop-row-preserved : goal.loop-row-preserved
loop-row-preserved c = record {
  demands = c.push_reserved.ensures.items
      ∙ (λ j. c.loop-row.invariant.demands j ++ (c.demand_of.ensures ∙ ap (demand_of c.args.input.now) c.row-item.is) j ∷ [])
      ∙ sym (map_more (demand_of c.args.input.now) c.rows-row-items.result.now c.loop-row.row-index c.row-item.result c.loop-row-test.true);
  room = omega (arith, c.push_reserved.ensures.capacity, c.loop-row.invariant.room);
  count = omega (arith, c.push_reserved.ensures.len, c.loop-row.invariant.count);
}

pub returns : goal.returns
returns c =
    let rows : c.rows-row-items.result.now ≡ c.args.input.now.roster = search rules in
    c.loop-row.invariant.demands ∙ ap (map (demand_of c.args.input.now)) (take_all c.loop-row.row-index c.rows-row-items.result.now c.loop-row-test.false ∙ rows)
