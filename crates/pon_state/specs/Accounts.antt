-- The accounts of a state's report book.
use Rattle.std.specs.Prelude.{ℕ, ◌≡◌, ◌==◌, List}
use Rattle.std.specs.List.{list_any}
use Rattle.pon_admit.specs.declared.row.Row.{Row}
use Rattle.pon_admit.specs.Roster.{has_alloc}
use Rattle.pon_guar.specs.declared.account.Account.{Account}
use Rattle.pon_guar.specs.Book.{AreRising, alloc_ids}

-- the Alloc-IDs of a report book are in ascending order, and are those of the roster
abbrev pub AccountsFor : List Row → List Account → Type 0
AccountsFor rows book = AreRising (alloc_ids book) × ((i : ℕ) → list_any (λ j. j == i) (alloc_ids book) ≡ has_alloc i rows)
