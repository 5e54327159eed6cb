-- The ranges that the types of a state's parts give.
use Rattle.std.specs.Prelude.{ℕ, ◌≤◌, All, IfSome, List, Option}
use Rattle.pon_units.specs.declared.limits.TheConstants.{MAX_OCCUPANCY}
use Rattle.pon_guar.specs.declared.account.Account.{Account}
use Rattle.pon_guar.specs.declared.account.Counted.{Counted}

abbrev pub HasCauseInRange : Option ℕ → Type 0
HasCauseInRange cause = IfSome cause (λ c. (1 ≤ c) × (c ≤ 9))

abbrev pub IsReportInRange : Option Counted → Type 0
IsReportInRange report = IfSome report (λ c. c.words ≤ MAX_OCCUPANCY)

abbrev pub AreReportsInRange : List Account → Type 0
AreReportsInRange book = All (λ a. IsReportInRange a.counted) book
