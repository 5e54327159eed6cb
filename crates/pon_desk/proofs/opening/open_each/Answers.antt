use Rattle.std.proofs.Common.{◌∙◌, ap, arith, sym}
use Rattle.std.proofs.lemmas.List.{take_all}
use Rattle.pon_plant.specs.Plants.{opened_ports}
use Rattle.pon_plant.proofs.Stepping.{one_more_port}
use Rattle.pon_desk.proofs.opening.open_each.Goals as goal

pub loop-cfg-init : goal.loop-cfg-init
loop-cfg-init g c = record {
  opened = c.in_ok-opened.ensures.items;
  count = c.in_ok-opened.ensures.len;
  room = c.in_ok-opened.ensures.capacity;
  parts = omega (arith, c.requires.0);
  none = c.requires.1;
}

pub split_off-share-requires-clause-has_parts : goal.split_off-share-requires-clause-has_parts
split_off-share-requires-clause-has_parts g c = omega (arith, c.loop-cfg.invariant.parts, c.loop-cfg-test.true)

pub split_off-share-requires-clause-has_amount : goal.split_off-share-requires-clause-has_amount
split_off-share-requires-clause-has_amount g c = omega arith

pub split_off-share-requires-clause-left_backed : goal.split_off-share-requires-clause-left_backed
split_off-share-requires-clause-left_backed g c = λ last. sym c.loop-cfg.invariant.none

pub open_port-requires : goal.open_port-requires
open_port-requires g c = (c.split_off-share.ensures.parts, c.split_off-share.ensures.amount)

pub push_reserved-requires : goal.push_reserved-requires
push_reserved-requires g c = omega (arith, c.loop-cfg.invariant.count, c.loop-cfg.invariant.room, c.loop-cfg-test.true)

pub loop-cfg-preserved : goal.loop-cfg-preserved
loop-cfg-preserved g c =
    let held = c.loop-cfg.invariant in
    let before = c.loop-cfg.opened.items in
    record {
      opened = c.push_reserved.ensures.items ∙ one_more_port c.args.ports.now c.loop-cfg.cfg-index before c.in_ok-held.held c.loop-cfg-item.result held.opened c.loop-cfg-test.true c.loop-cfg-item.is c.in_ok-held.ensures;
      count = omega (arith, c.push_reserved.ensures.len, held.count);
      room = omega (arith, c.push_reserved.ensures.capacity, held.room);
      parts = omega (arith, c.split_off-share.ensures.parts_left, held.parts);
      none = omega (arith, c.split_off-share.ensures.amount_left, held.none);
    }

pub returns-clause-opened : goal.returns-clause-opened
returns-clause-opened g c = c.loop-cfg.invariant.opened ∙ ap opened_ports (take_all c.loop-cfg.cfg-index c.args.ports.now c.loop-cfg-test.false)

pub returns-clause-none : goal.returns-clause-none
returns-clause-none g c = (omega (arith, c.loop-cfg.invariant.parts, c.loop-cfg-test.false), c.loop-cfg.invariant.none)
