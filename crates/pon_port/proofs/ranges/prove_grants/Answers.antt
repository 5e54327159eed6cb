use Rattle.std.proofs.Common.{subst}
use Rattle.std.specs.Prelude.{All}
use Rattle.std.proofs.lemmas.List.{take_all}
use Rattle.std.proofs.lemmas.List.Elements.{All-more}
use Rattle.pon_state.specs.Ranges.{IsGrantInRange}
use Rattle.pon_port.proofs.ranges.prove_grants.Goals as goal

pub loop-granted-preserved : goal.loop-granted-preserved
loop-granted-preserved c =
    let here : IsGrantInRange c.granted-item.result = record { onu = c.get-onu.ensures.range; managed = c.get-alloc_id.ensures.range.0; alloc_id = c.get-alloc_id.ensures.range.1; words = c.get-words.ensures.range } in
    All-more IsGrantInRange c.args.grants.now c.loop-granted.granted-index c.granted-item.result c.loop-granted-test.true c.loop-granted.invariant (subst IsGrantInRange c.granted-item.is here)

pub returns : goal.returns
returns c = subst (All IsGrantInRange) (take_all c.loop-granted.granted-index c.args.grants.now c.loop-granted-test.false) c.loop-granted.invariant
