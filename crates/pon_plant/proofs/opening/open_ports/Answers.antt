use Rattle.std.proofs.Common.{rules, ◌∙◌}
use Rattle.std.proofs.lemmas.List.Elements.{All-push}
use Rattle.pon_history.specs.Chapters.{IsLawfulChapter}
use Rattle.pon_plant.proofs.Stepping.{one_more_port}
use Rattle.pon_plant.proofs.opening.open_ports.Goals as goal

pub loop-cfg-preserved : goal.loop-cfg-preserved
loop-cfg-preserved c = record {
  opened = c.push_reserved.ensures.items
      ∙ one_more_port c.args.ports.now c.loop-cfg.cfg-index c.loop-cfg.opened.items c.in_ok-port.port c.loop-cfg-item.result c.loop-cfg.invariant.opened (search rules) c.loop-cfg-item.is (search rules);
  lawful = rw c.push_reserved.ensures.items (All-push IsLawfulChapter c.loop-cfg.opened.items c.in_ok-port.port c.loop-cfg.invariant.lawful c.in_ok-port.ensures.lawful);
  count = search rules;
  room = search rules;
}
