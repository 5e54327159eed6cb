-- The Alloc-IDs of a report book are those of the roster.
use Rattle.std.proofs.Common.{◌≡◌, ℕ, false, List, sym, ◌∙◌, subst}
use Rattle.std.specs.Prelude.{◌==◌}
use Rattle.std.specs.List.{list_any}
use Rattle.pon_lists.proofs.Lists.{list_any-map}
use Rattle.pon_lists.proofs.Inserted.{any_without, list_any-inserted}
use Rattle.pon_admit.specs.declared.row.Row.{Row}
use Rattle.pon_admit.specs.Roster.{has_alloc, with_row, without}
use Rattle.pon_guar.specs.declared.account.Account.{Account}
use Rattle.pon_guar.specs.Book.{AreRising, alloc_ids}
use Rattle.pon_guar.specs.Loads.{fresh_account, with_account, without_account}
use Rattle.pon_guar.proofs.Books.{admitted_rise, removed_rise, with_ids}
use Rattle.pon_state.specs.Accounts.{AccountsFor}

pub ids_same : (rows : List Row) (book new : List Account) → alloc_ids new ≡ alloc_ids book → AccountsFor rows book → AccountsFor rows new
ids_same rows book new same k = subst (λ ids. AreRising ids × ((i : ℕ) → list_any (λ j. j == i) ids ≡ has_alloc i rows)) (sym same) k

pub ids_admitted : (r : Row) (rows : List Row) (since : ℕ) (book : List Account) → has_alloc r.alloc_id rows ≡ false → AccountsFor rows book → AccountsFor (with_row r rows) (with_account (fresh_account r.alloc_id since) book)
ids_admitted r rows since book free k =
    (admitted_rise (fresh_account r.alloc_id since) book k.0 (k.1 r.alloc_id ∙ free), λ i. rw (with_ids (fresh_account r.alloc_id since) book, list_any-inserted, list_any-inserted, k.1 i))

pub ids_removed : (i : ℕ) (rows : List Row) (book : List Account) → AccountsFor rows book → AccountsFor (without i rows) (without_account i book)
ids_removed i rows book k =
    (removed_rise i book k.0, λ j. rw (list_any-map, any_without (λ a. a.alloc_id) i j book, any_without (λ r. r.alloc_id) i j rows, ← k.1 j, list_any-map))
