use Rattle.std.proofs.Common.{◌≡◌, ◌++◌, length}
use Rattle.std.specs.Vec.{vec_len}
use Rattle.pon_recorder.proofs.recording_thread.split_rings.Given as goal

-- the rings so far, and those to come
abbrev pub invariant-loop-ring : goal.invariant-loop-ring
invariant-loop-ring g l = record {
  all : l.yielded ++ l.ring-iterator.rest.items ≡ l.fn.rings.items;
  count : vec_len l.sinks ≡ length l.yielded;
}
