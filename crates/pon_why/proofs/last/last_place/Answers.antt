use Rattle.std.proofs.Common.{◌∙◌, false, rules, sym, true}
use Rattle.pon_why.proofs.LastPlaces.{one_more}
use Rattle.pon_why.proofs.last.last_place.Goals as goal
use Rattle.pon_why.proofs.last.last_place.Goals.{then-makes_map, else-makes_map}

pub loop-index-preserved : goal.loop-index-preserved
loop-index-preserved c =
    let es = c.args.entries.now in
    let e = c.index-entries-index.result in
    elim c.if-makes_map.branch [
      | then-makes_map w ↦ rw w.last-is (sym (one_more es c.loop-index.index e true (search rules) c.index-entries-index.is (sym c.makes_map.ensures ∙ w.if-makes_map.true)), search rules)
      | else-makes_map w ↦ rw w.last-is (c.loop-index.invariant.0 ∙ sym (one_more es c.loop-index.index e false (search rules) c.index-entries-index.is (sym c.makes_map.ensures ∙ w.if-makes_map.false)), c.loop-index.invariant.1)
    ]
