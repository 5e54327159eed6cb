use Rattle.std.proofs.Common.{◌≡◌, ◌≤◌, vec_len}
use Rattle.pon_olt.proofs.resuming.Resuming.ports_after.Given as goal

-- each port so far stands at its place
abbrev pub invariant-loop-place : goal.invariant-loop-place
invariant-loop-place g l = vec_len l.ports ≡ l.place
