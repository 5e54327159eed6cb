use Rattle.std.proofs.Common.{◌≡◌, ◌+◌, ◌≤◌, length, take, vec_len, vec_capacity}
use Rattle.pon_plant.specs.Plants.{opened_ports}
use Rattle.pon_desk.proofs.opening.open_each.Given as goal

-- the ports so far are open, there is room for all, and the other parts remain
abbrev pub invariant-loop-cfg : goal.invariant-loop-cfg
invariant-loop-cfg g l = record {
  opened : l.opened.items ≡ opened_ports (take l.cfg-index l.ports);
  count : vec_len l.opened ≡ l.cfg-index;
  room : length l.ports ≤ vec_capacity l.opened;
  parts : l.all.parts + l.cfg-index ≡ length l.ports;
  none : l.all.amount ≡ 0;
}
