use Rattle.std.proofs.Common.{◌≡◌, ◌+◌, ◌≤◌, ◌++◌, map, take, vec_capacity, vec_len}
use Rattle.pon_burst.specs.Layout.{IsAfter}
use Rattle.pon_burst.specs.Maps.{structure_of}
use Rattle.pon_burst.proofs.laying.lay_bursts.Given as goal

abbrev pub invariant-loop-granted : goal.invariant-loop-granted
invariant-loop-granted l = record {
  after : IsAfter l.fn.gap (take l.granted-index l.grants) l.layout;
  structures : l.out.items ≡ l.initial.out.items ++ map (structure_of l.fn.gap l.profile l.grants) (take l.granted-index l.grants);
  room : vec_capacity l.initial.out ≤ vec_capacity l.out;
  count : vec_len l.out ≡ vec_len l.initial.out + l.granted-index;
}
