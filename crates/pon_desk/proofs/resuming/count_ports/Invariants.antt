use Rattle.std.proofs.Common.{◌≡◌, ◌+◌, ◌≤◌, ◌++◌, length, map, vec_len, vec_capacity}
use Rattle.std.specs.Prelude.{sum}
use Rattle.pon_desk.specs.Counts.{taken_of}
use Rattle.pon_desk.proofs.resuming.count_ports.Given as goal

-- the ports so far are counted, and there is room and a part for each one to come
abbrev pub invariant-loop-port : goal.invariant-loop-port
invariant-loop-port g l = record {
  counts : l.counts.items ++ map taken_of l.port-iterator.rest.items ≡ map taken_of l.fn.ports.items;
  held : vec_len l.held + length l.port-iterator.rest.items ≡ vec_len l.fn.ports;
  counted : vec_len l.counts ≡ vec_len l.held;
  room : vec_len l.fn.ports ≤ vec_capacity l.held;
  room_counts : vec_len l.fn.ports ≤ vec_capacity l.counts;
  entries : l.entries ≡ sum l.counts.items;
  total : l.book.total ≡ l.entries;
  parts : l.all.parts ≡ length l.port-iterator.rest.items;
  none : l.all.amount ≡ 0;
}
