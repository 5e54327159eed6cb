use Rattle.std.proofs.Common.{◌≡◌, ◌+◌, ◌<◌, ◌≤◌, ℕ, length, slice_index}
use Rattle.pon_desk.proofs.closing.add_counts.Given as goal

-- below p the sums of both counts, from p on the former sums
abbrev pub invariant-loop-p : goal.invariant-loop-p
invariant-loop-p l =
    (length l.sums ≡ length l.fn.sums)
    × ((q : ℕ) → q < l.p → slice_index l.sums q ≡ slice_index l.fn.sums q + slice_index l.counts q)
    × ((q : ℕ) → l.p ≤ q → slice_index l.sums q ≡ slice_index l.fn.sums q)
