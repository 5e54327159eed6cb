use Rattle.std.proofs.Common.{◌≡◌, take, map}
use Rattle.toml.specs.View.{view}
use Rattle.pon_settings.specs.Rows.{SpellsRows, roster_after}
use Rattle.pon_settings.proofs.rows.rows_of.Given as goal

abbrev pub invariant-loop-k : goal.invariant-loop-k
invariant-loop-k l = record {
  spelled : SpellsRows l.fn.gap (take l.k (map view l.tables)) l.rows.items;
  roster : l.roster ≡ roster_after l.fn.gap l.rows.items;
}
