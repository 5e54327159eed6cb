-- What is shown of each admitted Alloc-ID of a state.
use Rattle.std.specs.Prelude.{ℕ, ◌-◌, ◌==◌, List, map, filter, find, length, slice_get, Option, Some, None, option_map}
use Rattle.pon_admit.specs.declared.row.Row.{Row}
use Rattle.pon_guar.specs.Book.{account_of, known_report}
use Rattle.pon_guar.specs.Window.{WindowMap}
use Rattle.pon_state.specs.State.{State}
use Rattle.pon_why.specs.declared.view.RowView.{RowView}

-- the payload words that a map grants an Alloc-ID at its ONU
abbrev pub granted_in : WindowMap → Row → Option ℕ
granted_in m r = option_map (λ g. g.words) (find (λ g. g.alloc_id == r.alloc_id) (filter (λ g. g.onu == r.onu) m.grants))

abbrev pub granted_by : Option WindowMap → Row → Option ℕ
granted_by None r = None
granted_by (Some m) r = granted_in m r

-- the last map of a window
abbrev pub last_of : List WindowMap → Option WindowMap
last_of window = slice_get window (length window - 1)

-- the descriptor of a row, its counted report, and the words that the last map granted it
abbrev pub row_view : State → Row → RowView
row_view s r = record {
  row = r;
  counted = known_report (account_of s.book r.alloc_id);
  granted = granted_by (last_of s.window) r;
}

-- those of each admitted Alloc-ID, in map order
abbrev pub row_views : State → List RowView
row_views s = map (row_view s) s.roster
