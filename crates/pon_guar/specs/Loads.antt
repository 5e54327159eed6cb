-- The report book, and the book after each call.
use Rattle.std.specs.Prelude.{ℕ, ◌-◌, nat_lt, List, [], map, Option, None, option_map}
use Rattle.pon_lists.specs.Order.{with_inserted, without_key}
use Rattle.pon_guar.specs.Book.{Account, Counted}
use Rattle.pon_units.specs.declared.granted.Granted.{Granted}
use Rattle.pon_guar.specs.Window.{WindowMap, grants_at, with_map, words_among, words_to_from}
use Rattle.pon_guar.specs.ReportChecks.{with_report}
use Rattle.pon_guar.specs.Reports.{after_occupancies}

-- accounts in ascending Alloc-ID, and the window in ascending frame
pub record Loads : Type 0 where
  pub accounts : List Account
  pub window : List WindowMap

-- an account of an Alloc-ID just admitted: its reports count from a frame on, and none does yet
abbrev pub fresh_account : ℕ → ℕ → Account
fresh_account i since = record { alloc_id = i; since = since; counted = None }

-- the accounts with one more inserted in order, and with that of an Alloc-ID removed
abbrev pub with_account : Account → List Account → List Account
with_account a book = with_inserted (λ b. nat_lt b.alloc_id a.alloc_id) a book

abbrev pub without_account : ℕ → List Account → List Account
without_account i book = without_key (λ a. a.alloc_id) i book

-- a report and an account reduced by `w` words, and an account after grants
abbrev pub less : ℕ → Counted → Counted
less w c = record { frame = c.frame; words = c.words - w }

abbrev pub less_by : ℕ → Account → Account
less_by w a = record { alloc_id = a.alloc_id; since = a.since; counted = option_map (less w) a.counted }

abbrev pub lessened : List Granted → Account → Account
lessened gs a = less_by (words_among a.alloc_id gs) a

-- an account without a report, whose reports count from a frame on
abbrev pub afresh : ℕ → Account → Account
afresh since a = fresh_account a.alloc_id since

-- the book after each call

abbrev pub after_admitted : Loads → ℕ → ℕ → Loads
after_admitted l i since = record { accounts = with_account (fresh_account i since) l.accounts; window = l.window }

abbrev pub after_removed : Loads → ℕ → Loads
after_removed l i = record { accounts = without_account i l.accounts; window = l.window }

abbrev pub after_mapped : Loads → ℕ → List Granted → Loads
after_mapped l frame gs = record { accounts = map (lessened gs) l.accounts; window = with_map frame gs l.window }

abbrev pub after_reported : Loads → ℕ → ℕ → List (Option ℕ) → Loads
after_reported l frame u ns = record {
  accounts = after_occupancies (λ i. words_to_from u i frame l.window) frame (grants_at frame u l.window) ns l.accounts;
  window = map (with_report frame u) l.window;
}

abbrev pub after_cleared : Loads → ℕ → Loads
after_cleared l frame = record { accounts = map (afresh frame) l.accounts; window = [] }
