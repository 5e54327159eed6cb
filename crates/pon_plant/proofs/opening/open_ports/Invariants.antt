use Rattle.std.proofs.Common.{◌≡◌, ◌≤◌, length, take, vec_len, vec_capacity}
use Rattle.std.specs.Prelude.{All}
use Rattle.pon_history.specs.Chapters.{IsLawfulChapter}
use Rattle.pon_plant.specs.Plants.{opened_ports}
use Rattle.pon_plant.proofs.opening.open_ports.Given as goal

-- the ports so far are open, and there is room for all
abbrev pub invariant-loop-cfg : goal.invariant-loop-cfg
invariant-loop-cfg l = record {
  opened : l.opened.items ≡ opened_ports (take l.cfg-index l.ports);
  lawful : All IsLawfulChapter l.opened.items;
  count : vec_len l.opened ≡ l.cfg-index;
  room : length l.ports ≤ vec_capacity l.opened;
}
