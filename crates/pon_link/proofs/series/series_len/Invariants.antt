use Rattle.std.proofs.Common.{◌-◌, ◌<◌, ◌≤◌, length}
use Rattle.pon_link.proofs.Splits.{GoesOn}
use Rattle.pon_link.proofs.series.series_len.Given as goal

-- the structures so far are of one series
abbrev pub invariant-loop-len : goal.invariant-loop-len
invariant-loop-len l = record {
  some : 0 < l.len;
  within : l.len ≤ length l.rows;
  goes_on : GoesOn l.rows l.len;
}

abbrev pub decreases-loop-len : goal.decreases-loop-len
decreases-loop-len l = length l.rows - l.len
