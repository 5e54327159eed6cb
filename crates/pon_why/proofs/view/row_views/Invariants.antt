use Rattle.std.proofs.Common.{◌≡◌, ◌≤◌, length, map, take}
use Rattle.std.specs.Prelude.{vec_capacity, vec_len}
use Rattle.pon_why.specs.RowViews.{row_view}
use Rattle.pon_why.proofs.view.row_views.Given as goal

-- the views so far are those of the first rows, and there is room for all
abbrev pub invariant-loop-row : goal.invariant-loop-row
invariant-loop-row l = record {
  views : l.views.items ≡ map (row_view l.state) (take l.row-index l.rows);
  count : vec_len l.views ≡ l.row-index;
  room : length l.rows ≤ vec_capacity l.views;
}
