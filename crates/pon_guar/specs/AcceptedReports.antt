-- Reports that no check refuses, and where their maps are found.
use Rattle.std.specs.Prelude.{◌≡◌, ℕ, List, None}
use Rattle.pon_guar.specs.Window.{IsPlaceOf, WindowMap}
use Rattle.pon_guar.specs.ReportChecks.{refuses_report}
use Rattle.pon_guar.specs.declared.reports.Accepted.{Accepted}

-- a report that no check refuses, with the index of its map
pub record IsAccepted (window : List WindowMap) (f u count : ℕ) (a : Accepted) : Type 0 where
  pub frame : a.frame ≡ f
  pub onu : a.onu ≡ u
  pub passes : refuses_report window f u count ≡ None
  pub there : IsPlaceOf f window a.map
