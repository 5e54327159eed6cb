use Rattle.std.proofs.Common.{◌≡◌, ◌-◌, ◌≤◌, length}
use Rattle.pon_units.specs.declared.limits.TheConstants.{MAX_STRUCTURES}
use Rattle.pon_bwmap.specs.MapRules.{FirstKeepRules, place_in_series}
use Rattle.pon_bwmap.proofs.rules.rows_fault.Given as goal

abbrev pub invariant-loop-k : goal.invariant-loop-k
invariant-loop-k l = record {
  count : length l.rows ≤ MAX_STRUCTURES;
  keep_rules : FirstKeepRules l.rows l.k;
  place : l.place ≡ place_in_series l.rows (l.k - 1);
  short : l.place ≤ 15;
}
