-- Reports, account by account. The words granted to each Alloc-ID from the report's frame on are given.
use Rattle.std.specs.Prelude.{ℕ, ◌-◌, nat_le, if◌then◌else◌, List, ◌++◌, map, Option, option_to_list}
use Rattle.pon_units.specs.declared.granted.Granted.{Granted}
use Rattle.pon_guar.specs.Book.{Account, Counted}
use Rattle.pon_guar.specs.Reports.{latest, occupancies}

-- the reports of an Alloc-ID by its ONU for a frame's map: each occupancy, less what was granted from the frame on
abbrev pub reports_of : (ℕ → ℕ) → ℕ → List Granted → List (Option ℕ) → ℕ → List Counted
reports_of granted frame gs occ i = map (λ n. record { frame = frame; words = n - granted i }) (occupancies i gs occ)

-- an account after that report: from its since-frame on the latest report counts
abbrev pub account_reported : (ℕ → ℕ) → ℕ → List Granted → List (Option ℕ) → Account → Account
account_reported granted frame gs occ a =
    if nat_le a.since frame
    then record { alloc_id = a.alloc_id; since = a.since; counted = latest (option_to_list a.counted ++ reports_of granted frame gs occ a.alloc_id) }
    else a
