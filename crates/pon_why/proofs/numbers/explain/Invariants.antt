use Rattle.std.proofs.Common.{◌≡◌, ◌≤◌, length, map, take, vec_capacity, vec_len}
use Rattle.pon_why.specs.Explanations.{explanation_of}
use Rattle.pon_why.proofs.numbers.explain.Given as goal

-- the rows so far are explained, and there is room for all
abbrev pub invariant-loop-place : goal.invariant-loop-place
invariant-loop-place l = record {
  explained : l.found.items ≡ map (explanation_of l.state l.cert) (take l.place l.state.roster);
  count : vec_len l.found ≡ l.place;
  room : length l.state.roster ≤ vec_capacity l.found;
}
