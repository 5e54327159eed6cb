use Rattle.std.proofs.Common.{◌≡◌, ◌++◌}
use Rattle.std.specs.Prelude.{length}
use Rattle.std.specs.Vec.{vec_len}
use Rattle.pon_sockets.proofs.outside.accept_all.Given as goal

-- a connection for each listener so far, and the listeners to come
abbrev pub invariant-loop-listening : goal.invariant-loop-listening
invariant-loop-listening g l = record {
  all : l.yielded ++ l.listening-iterator.rest.items ≡ l.fn.all.items;
  links : vec_len l.links ≡ length l.yielded;
}
