-- The window as a function of a whole history: the last maps, each with the ONUs that reported for it.
use Rattle.std.specs.Prelude.{ℕ, ◌==◌, ◌||◌, nat_le, Bool, if◌then◌else◌, List, [], ◌∷◌, ◌++◌, map, filter}
use Rattle.std.specs.List.{list_any}
use Rattle.pon_admit.specs.declared.row.Row.{Row}
use Rattle.pon_guar.specs.Window.{WindowMap, last_64, onus_polled}
use Rattle.pon_state.specs.State.{State}
use Rattle.pon_state.specs.Maps.{grants_in_map, makes_map, structures}
use Rattle.pon_state.specs.declared.reply.Reply.{Reply}
use Rattle.pon_state.specs.Entry.{Entry}
use Rattle.pon_history.specs.Parts.{forgets, frame_at_last, is_report_for, next_of, roster_after}

-- an ONU that has reported for the map, before or in one of the entries
abbrev pub has_reported : List Entry → WindowMap → ℕ → Bool
has_reported es m u = list_any (λ v. v == u) m.reported || list_any (λ e. is_report_for m.frame u e.event) es

-- a map, with the ONUs that report for it in later entries added
abbrev pub with_reports : List Entry → WindowMap → WindowMap
with_reports es m = record { frame = m.frame; grants = m.grants; reported = filter (has_reported es m) (onus_polled m) }

abbrev pub new_map : List Row → ℕ → Reply → WindowMap
new_map rows next reply = record { frame = next; grants = grants_in_map rows (structures reply); reported = [] }

-- the map of an entry that makes one
abbrev pub map_made : List Row → ℕ → Entry → List WindowMap
map_made rows next e = if makes_map e.event then new_map rows next e.reply ∷ [] else []

-- the maps that the entries made, each with its reports so far
abbrev pub maps_of : List Row → ℕ → List Entry → List WindowMap
maps_of rows next [] = []
maps_of rows next (e ∷ es) = map (with_reports es) (map_made rows next e) ++ maps_of (roster_after rows e.event) (next_of next (e ∷ [])) es

-- all maps that are known
abbrev pub all_maps : State → List Entry → List WindowMap
all_maps o es = map (with_reports es) o.window ++ maps_of o.roster o.next es

-- the next frame at the last Fail or Restore, 0 if there is none in the list
abbrev pub kept_from : State → List Entry → ℕ
kept_from o es = frame_at_last (λ e. forgets e.event) 0 o.next es

-- a map that the last Fail or Restore has not dropped
abbrev pub is_kept : State → List Entry → WindowMap → Bool
is_kept o es m = nat_le (kept_from o es) m.frame

-- the last 64 maps after the last Fail or Restore
abbrev pub window_of : State → List Entry → List WindowMap
window_of o es = last_64 (filter (is_kept o es) (all_maps o es))
