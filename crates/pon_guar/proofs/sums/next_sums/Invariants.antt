use Rattle.std.proofs.Common.{◌≡◌, ◌≤◌, length, take, vec_capacity, vec_len}
use Rattle.std.specs.Prelude.{All}
use Rattle.pon_units.specs.declared.limits.TheConstants.{FRAME_WORDS}
use Rattle.pon_guar.specs.Sums.{sums_beside}
use Rattle.pon_guar.proofs.sums.next_sums.Given as goal

-- the sums beside the grants so far, with room for all, and each grant has at most the words of a frame
abbrev pub invariant-loop-granted : goal.invariant-loop-granted
invariant-loop-granted l = record {
  sums : l.before.items ≡ sums_beside l.maps l.sums (take l.granted-index l.grants);
  small : All (λ g. g.words ≤ FRAME_WORDS) (take l.granted-index l.grants);
  count : vec_len l.before ≡ l.granted-index;
  room : length l.grants ≤ vec_capacity l.before;
}
