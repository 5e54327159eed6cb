use Rattle.std.proofs.Common.{◌≡◌, ◌<◌, ℕ, slice_index, map}
use Rattle.pon_desk.specs.Counts.{taken_of}
use Rattle.pon_desk.proofs.closing.first_uneven.Given as goal

abbrev pub invariant-loop-p : goal.invariant-loop-p
invariant-loop-p l = (q : ℕ) → q < l.p → slice_index (map taken_of l.ports) q ≡ slice_index l.counts q
