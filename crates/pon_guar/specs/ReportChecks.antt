-- Reports for the maps of a window.
use Rattle.std.specs.Prelude.{ℕ, ◌==◌, ◌&&◌, ◌||◌, not, List, [], ◌∷◌, filter, length, Option}
use Rattle.std.specs.List.{list_any}
use Rattle.pon_descr.specs.Checks.{when, first_refusal_of}
use Rattle.pon_descr.specs.declared.refusal.Refusal.{Refusal}
use Rattle.pon_descr.specs.declared.refusal.Refusal.TheVariants.{StaleFrame, NotPolled, ReportCount, AlreadyReported}
use Rattle.pon_guar.specs.Window.{WindowMap, grants_at, is_of, onus_polled}

-- the first check that refuses a report of `count` occupancies
abbrev pub refuses_report : List WindowMap → ℕ → ℕ → ℕ → Option Refusal
refuses_report window frame u count = first_refusal_of (
    when (not (list_any (is_of frame) window)) StaleFrame
    ∷ when (length (grants_at frame u window) == 0) NotPolled
    ∷ when (not (count == length (grants_at frame u window))) ReportCount
    ∷ when (list_any (λ m. is_of frame m && list_any (λ v. v == u) m.reported) window) AlreadyReported
    ∷ [])

-- a map after an ONU's report for its frame
abbrev pub with_report : ℕ → ℕ → WindowMap → WindowMap
with_report frame u m = record {
  frame = m.frame;
  grants = m.grants;
  reported = filter (λ v. list_any (λ w. w == v) m.reported || (frame == m.frame && u == v)) (onus_polled m);
}
